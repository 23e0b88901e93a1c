use Rattle.std.proofs.Common.{inl, inr}
use Rattle.cli.specs.Running.{first, memory}
use Rattle.cli.proofs.running.link_texts.Goals as goal

pub returns-in-NoMemory-clause-refused : goal.returns-in-NoMemory-clause-refused
returns-in-NoMemory-clause-refused c = memory

pub returns-in_default : goal.returns-in_default
returns-in_default c = record {
  linked = tt;
  refused = elim c.in-Err.ensures.fault [
    | inl is ↦ absurd (c.in_default.not-NoMemory is)
    | inr fault ↦ first fault
  ];
}
