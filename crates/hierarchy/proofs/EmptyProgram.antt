-- No class at all.
use Rattle.std.proofs.Common.{◌≡◌, ◌<◌, List, [], refl, sym, subst, arith}
use Rattle.std.proofs.lemmas.List.Elements.{All-nil}
use Rattle.jasmin_text.specs.declared.class_text.ClassParts.{ClassParts}
use Rattle.jasmin_text.specs.Spellable.{IsSpellable}
use Rattle.hierarchy.specs.declared.class.Class.{Class}
use Rattle.hierarchy.specs.declared.edition.Edition.{Edition}
use Rattle.hierarchy.specs.LinkedProgram.{LinkedProgram, linked_as, id}
use Rattle.hierarchy.specs.Hierarchy.{IsAcyclic}
use Rattle.hierarchy.specs.FirstFault.{LinksAs}
use Rattle.hierarchy.specs.LinkedTexts.{IsLinked}
use Rattle.hierarchy.proofs.Acyclic.{acyclic_all, not_cyclic}
use Rattle.hierarchy.proofs.InRange.{in_range_all}

nothing_acyclic : IsAcyclic []
nothing_acyclic = acyclic_all [] (in_range_all [] [] refl) (λ n h. absurd (omega (arith, h)))

nothing_links : (edition : Edition) → LinksAs edition [] (linked_as edition [])
nothing_links edition = record {
  edition_is = refl;
  names = record { room = omega arith; user_names = refl; distinct = λ i r. let h : i < 0 = r.0 in absurd (omega (arith, h)) };
  supertypes = refl;
  cycles = λ n. not_cyclic [] nothing_acyclic (id n);
  members = refl;
  heap = λ i f. let h : i < 0 = f.0 in absurd (omega (arith, h));
}

pub empty_links : (edition : Edition) (texts : List ClassParts) (p : LinkedProgram) → texts ≡ [] → p ≡ linked_as edition [] → LinksAs edition texts p
empty_links edition texts p e q = subst (λ z. LinksAs edition z p) (sym e) (subst (λ z. LinksAs edition [] z) (sym q) (nothing_links edition))

pub empty_linked : (edition : Edition) (classes : List Class) → classes ≡ [] → IsLinked (linked_as edition classes)
empty_linked edition classes e = subst (λ z. IsLinked (linked_as edition z)) (sym e) (record { texts = []; spellable = All-nil IsSpellable; links = nothing_links edition })
