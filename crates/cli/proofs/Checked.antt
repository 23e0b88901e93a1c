-- What is found of a trace in a file, while no file is written.
use Rattle.std.proofs.Common.{◌≡◌, ◌+◌, ℕ, length, take, List, Option, Some, None, IsSomeAnd, subst}
use Rattle.std.specs.Prelude.{Err}
use Rattle.hierarchy.specs.declared.class.ClassId.{ClassId}
use Rattle.hierarchy.specs.LinkedProgram.{LinkedProgram}
use Rattle.init_core.specs.declared.event.Event.{Event}
use Rattle.judge.specs.declared.verdict.Verdict.{Verdict}
use Rattle.trace_reader.specs.TraceEvents.{IsTraceOf}
use Rattle.trace_reader.specs.declared.reader.TheConstants.{MOST_BYTES}
use Rattle.trace_reader.specs.TraceReading.{events_of}
use Rattle.cli.specs.declared.fault.Fault.{Fault}
use Rattle.cli.specs.Checking.{IsJudgeRefusal, IsJudgedOf, IsTraceRefusal, faulty, no_memory, no_mains, no_room, no_trace, unread}
use Rattle.cli.specs.Files.{FileHolds, Files, KeepsAllBut}
use Rattle.cli.proofs.KnownFiles.{held_before}

-- what holds of what was read of a file holds of its front
pub front_is : (known : Option Files) (name bytes : List ℕ) (P : List ℕ → Type 0) → FileHolds known name (λ all. bytes ≡ take (MOST_BYTES + 1) all) → P bytes
    → FileHolds known name (λ all. P (take (MOST_BYTES + 1) all))
front_is None name bytes P front holds = tt
front_is (Some files) name bytes P front holds = go (files name) front
  where
    go : (o : Option (List ℕ)) → IsSomeAnd o (λ all. bytes ≡ take (MOST_BYTES + 1) all) → IsSomeAnd o (λ all. P (take (MOST_BYTES + 1) all))
    go None is = absurd is
    go (Some all) is = subst P is holds

pub untraced_before : (before after : Option Files) (file : List ℕ) (p : LinkedProgram) (threads : ℕ) (f : Fault) → KeepsAllBut None before after
    → IsTraceRefusal after file p threads f → IsTraceRefusal before file p threads f
untraced_before before after file p threads _ kept (unread is) = unread is
untraced_before before after file p threads _ kept (faulty {f = g} is found) =
    faulty is (held_before before after file (λ all. events_of p threads (take (MOST_BYTES + 1) all) ≡ Err g) kept found)
untraced_before before after file p threads _ kept no_room = no_room

pub not_judged_before : (before after : Option Files) (p : LinkedProgram) (mains : Option (List ℕ)) (trace : List ℕ) (f : Fault) → KeepsAllBut None before after
    → IsJudgeRefusal after p mains trace f → IsJudgeRefusal before p mains trace f
not_judged_before before after p mains trace _ kept (no_mains none) = no_mains none
not_judged_before before after p mains trace f kept (no_trace {classes} named refused) = no_trace {classes = classes} named (untraced_before before after trace p (length classes) f kept refused)
not_judged_before before after p mains trace _ kept no_memory = no_memory

pub judged_before : (before after : Option Files) (p : LinkedProgram) (mains : Option (List ℕ)) (trace : List ℕ)
    (classes : List ClassId) (events : List Event) (verdict : Verdict) → KeepsAllBut None before after
    → IsJudgedOf after p mains trace classes events verdict → IsJudgedOf before p mains trace classes events verdict
judged_before before after p mains trace classes events verdict kept judged =
    record {
      named = judged.named;
      traced = held_before before after trace (λ all. IsTraceOf p (length classes) all events) kept judged.traced;
      judged = judged.judged;
    }
