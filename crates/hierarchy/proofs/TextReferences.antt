-- Each quoted text has one reference.
use Rattle.std.proofs.Common.{◌≡◌, ℕ, zero, suc, ◌+◌, ◌-◌, ◌<◌, ◌≤◌, false, cond, inl, inr, Option, Some, None, List, [], ◌∷◌, ◌++◌, length, take, fold, slice_get, refl, sym, ap, ◌∙◌, arith}
use Rattle.std.proofs.lemmas.Bool.{cases_Bool, le-ltb, ltb-false}
use Rattle.std.proofs.lemmas.List.{take_all, take-append-le}
use Rattle.std.proofs.lemmas.Option.{slice_get_within, slice_get-map}
use Rattle.std.proofs.lemmas.Slice.Eq.{bytes_eq-Decides}
use Rattle.std.specs.List.{list_any, flat_map}
use Rattle.std.specs.Option.{option_map}
use Rattle.std.specs.Prelude.{nat_lt, ◌↔◌}
use Rattle.std.specs.Str.{bytes_eq}
use Rattle.hierarchy.specs.LinkedProgram.{LinkedProgram}
use Rattle.hierarchy.specs.declared.ready.ReadyObject.{ReadyObject}
use Rattle.hierarchy.specs.declared.ready.ReadyObject.TheVariants as ready
use Rattle.hierarchy.specs.Objects.{ready_objects, objects_at_start, text_at}
use Rattle.hierarchy.specs.Quoted.{quoted_in, quoted_texts, text_reference}
use Rattle.texts.specs.Texts.{has_text, note_text, place_of_text}
use Rattle.hierarchy.proofs.Acyclic.{get-pushed}
use Rattle.hierarchy.proofs.Positions.{Some_same, first_place, found_passes, position_by_steps}

-- no text has the same before it
abbrev Once : List (List ℕ) → Type 0
Once texts = (i : ℕ) (t : List ℕ) → slice_get texts i ≡ Some t → list_any (bytes_eq t) (take i texts) ≡ false

pushed_once : (texts : List (List ℕ)) (t : List ℕ) → Once texts → has_text t texts ≡ false → Once (texts ++ t ∷ [])
pushed_once texts t o n i y e =
    elim (get-pushed texts t i y e) [
      | inl l ↦
          let within : i < length texts = slice_get_within texts i y l in
          let short : i ≤ length texts = omega (arith, within) in
          ap (list_any (bytes_eq y)) (take-append-le i texts (t ∷ []) short) ∙ o i y l
      | inr r ↦
          let short : i ≤ length texts = omega (arith, r.0) in
          let long : length texts ≤ i = omega (arith, r.0) in
          ap (list_any (bytes_eq y)) (take-append-le i texts (t ∷ []) short ∙ take_all i texts long) ∙ ap (λ z. list_any (bytes_eq z) texts) r.1 ∙ n
    ]

noted_once : (texts : List (List ℕ)) (t : List ℕ) → Once texts → Once (note_text texts t)
noted_once texts t o = elim (cases_Bool (has_text t texts)) [ inl e ↦ rw e o | inr e ↦ rw e (pushed_once texts t o e) ]

all_once : (noted texts : List (List ℕ)) → Once noted → Once (fold note_text noted texts)
all_once noted [] o = o
all_once noted (t ∷ texts) o = all_once (note_text noted t) texts (noted_once noted t o)

nothing_once : Once []
nothing_once i t e = absurd cc

referred : (quoted : List (List ℕ)) (text : List ℕ) (r : ℕ) → option_map (λ place. 3 + place) (place_of_text text quoted) ≡ Some r → cond (nat_lt r 3) None (slice_get quoted (r - 3)) ≡ Some text
referred quoted text r e = at (place_of_text text quoted) refl e
  where
    at : (o : Option ℕ) → place_of_text text quoted ≡ o → option_map (λ place. 3 + place) o ≡ Some r → cond (nat_lt r 3) None (slice_get quoted (r - 3)) ≡ Some text
    at None g q = absurd cc
    at (Some k) g q =
        let f = found_passes (bytes_eq text) 0 quoted k (sym (position_by_steps (bytes_eq text) quoted) ∙ g) in
        let number : 3 + k ≡ r = Some_same q in
        let same : r - 3 ≡ f.place = omega (arith, f.is, number) in
        let past : nat_lt r 3 ≡ false = le-ltb r 3 (omega (arith, number)) in
        rw past (ap (slice_get quoted) same ∙ f.there ∙ ap Some (sym ((bytes_eq-Decides text f.at).0 f.passes)))

refers : (quoted : List (List ℕ)) → Once quoted → (text : List ℕ) (r : ℕ) → cond (nat_lt r 3) None (slice_get quoted (r - 3)) ≡ Some text → option_map (λ place. 3 + place) (place_of_text text quoted) ≡ Some r
refers quoted o text r e =
    elim (cases_Bool (nat_lt r 3)) [
      | inl t ↦ let q = rw t at e in absurd cc
      | inr t ↦
          let there : slice_get quoted (r - 3) ≡ Some text = rw t at e in
          let past : 3 ≤ r = ltb-false r 3 t in
          let back : 3 + (r - 3) ≡ r = omega (arith, past) in
          ap (option_map (λ place. 3 + place)) (position_by_steps (bytes_eq text) quoted ∙ first_place (bytes_eq text) quoted (r - 3) text there ((bytes_eq-Decides text text).1 refl) (o (r - 3) text there)) ∙ ap Some back
    ]

pub ready_first : (p : LinkedProgram) (r : ℕ) (o : ReadyObject) → slice_get ready_objects r ≡ Some o → Some o ≡ slice_get (objects_at_start p) r
ready_first p zero o e = sym e
ready_first p (suc zero) o e = sym e
ready_first p (suc (suc zero)) o e = sym e
ready_first p (suc (suc (suc k))) o e = absurd cc

-- the references after the ready objects are those of the texts
pub ready_text : (p : LinkedProgram) (r : ℕ) (t : List ℕ) → text_at p r ≡ Some t → Some ready.Text ≡ slice_get (objects_at_start p) r
ready_text p zero t e = absurd cc
ready_text p (suc zero) t e = absurd cc
ready_text p (suc (suc zero)) t e = absurd cc
ready_text p (suc (suc (suc k))) t e =
    let past : nat_lt (suc (suc (suc k))) 3 ≡ false = le-ltb (suc (suc (suc k))) 3 (omega arith) in
    let same : suc (suc (suc k)) - 3 ≡ k = omega arith in
    let there : slice_get (quoted_texts p.classes) (suc (suc (suc k)) - 3) ≡ Some t = rw past at e in
    sym (slice_get-map (λ t. ready.Text) (quoted_texts p.classes) k ∙ ap (option_map (λ t. ready.Text)) (ap (slice_get (quoted_texts p.classes)) (sym same) ∙ there))

pub ready_nothing : (p : LinkedProgram) (r : ℕ) → slice_get ready_objects r ≡ None → text_at p r ≡ None → None ≡ slice_get (objects_at_start p) r
ready_nothing p zero n e = absurd cc
ready_nothing p (suc zero) n e = absurd cc
ready_nothing p (suc (suc zero)) n e = absurd cc
ready_nothing p (suc (suc (suc k))) n e =
    let past : nat_lt (suc (suc (suc k))) 3 ≡ false = le-ltb (suc (suc (suc k))) 3 (omega arith) in
    let same : suc (suc (suc k)) - 3 ≡ k = omega arith in
    let there : slice_get (quoted_texts p.classes) (suc (suc (suc k)) - 3) ≡ None = rw past at e in
    sym (slice_get-map (λ t. ready.Text) (quoted_texts p.classes) k ∙ ap (option_map (λ t. ready.Text)) (ap (slice_get (quoted_texts p.classes)) (sym same) ∙ there))

pub texts_refer : (p : LinkedProgram) (text : List ℕ) (r : ℕ) → (text_reference p text ≡ Some r) ↔ (text_at p r ≡ Some text)
texts_refer p text r = (referred (quoted_texts p.classes) text r, refers (quoted_texts p.classes) (all_once [] (flat_map quoted_in p.classes) nothing_once) text r)
