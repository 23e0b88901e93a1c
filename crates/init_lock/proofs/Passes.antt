-- What is true of a pass, and what it knows, after each of its steps.
use Rattle.std.proofs.Common.{◌≡◌, ◌≢◌, ℕ, suc, ◌+◌, ◌<◌, List, [], ◌∷◌, ◌++◌, Bool, true, false, MatchBool, cond, Option as Opt, Some, None, length, map, refl, sym, ap, ◌∙◌, subst, arith}
use Rattle.std.specs.Option.{option_or}
use Rattle.atomic_table.specs.Seated.{TableId}
use Rattle.init_lock.specs.declared.views.PassView.{PassView}
use Rattle.init_lock.specs.declared.views.Look.{Look}
use Rattle.init_lock.specs.declared.views.PlaceView.{PlaceView}
use Rattle.init_lock.specs.declared.views.Custody.TheVariants.{Away, Carried}
use Rattle.init_lock.specs.declared.journal.Stamped.{Stamped}
use Rattle.init_lock.specs.Log.{is_at, IsPlace, Grew, settled, stamped}
use Rattle.init_lock.specs.Rule.{place_view, pass_view, unseen, Each}
use Rattle.init_lock.specs.Known.{PassFacts, HeldFacts, IsAway, IsNewPass, look, seen_at, out_by, out_of, last_at, places_of, misses_of, looks_of, opening_of}
use Rattle.init_lock.specs.Settled.{KnowsDone}
use Rattle.init_lock.specs.Taken.{Taken as FoundFree}
use mathlib.Core.Logic.{dite}
use native.Mathlib.Decide.{ℕ_discrete}
use Rattle.init_lock.specs.Steps.{SeatView, modify, learn, saw, Learned, LearnsAt, HasSettled, took, missed, leave, released, drawn_places, drew, view_of, PassHolds, IsOnePass, MayReturn, Found, IsOutAt, slots_of, without, custody_beside, IsCarried}
use Rattle.init_lock.proofs.Lists.{length_map, length-modify, length_snoc, some_at, at_low}
use Rattle.init_lock.proofs.Entries.{length-drawn, last_is, out_is}
use Rattle.init_lock.proofs.Ends.{all_at, unseen_none_carried, unseen_away, unseen_seen, unseen_last}
use Rattle.init_lock.proofs.Places.{IsHolding, IsHoldingAt, now_at, others_same, held_there, carried_on, carried_learned, carried_left, carried_took, none_carried}

inside_with : (slots n : ℕ) (carried : Opt ℕ) → IsPlace slots carried → n < slots → IsPlace slots (option_or carried (Some n))
inside_with slots n None inside low = low
inside_with slots n (Some m) inside low = inside

inside_but : (slots : ℕ) (carried : Opt ℕ) (b : Bool) → IsPlace slots carried → IsPlace slots (cond b None carried)
inside_but slots carried true inside = tt
inside_but slots carried false inside = inside

out_beside : {R : Type 0} (carried : Opt ℕ) (r : R) → out_by (custody_beside carried) r ≡ Some r
out_beside None r = refl
out_beside (Some m) r = refl

module _ {R E : Type 0} where
  abbrev pub the_view : ℕ → List (Stamped E) → SeatView R E → PassView R E
  the_view number journal me = pass_view number (misses_of me.0) journal (looks_of me.0) (opening_of me.0) (places_of me.0)

  pub is_one : (slots number room : ℕ) (carried : Opt ℕ) (journal : List (Stamped E)) (me : SeatView R E) → PassHolds slots number carried journal room me → IsOnePass number carried me
  is_one slots number room carried journal me h = record { pass = the_view number journal me; is = h.tied; numbered = refl }

  tied_again : (number misses : ℕ) (carried : Opt ℕ) (journal : List (Stamped E)) (looks : List (Look E)) (opening : List R) (places : List (PlaceView R E)) (me1 : SeatView R E) → me1 ≡ (pass_view number misses journal looks opening places ∷ [], slots_of carried)
      → me1 ≡ (view_of number journal me1.0, slots_of carried)
  tied_again number misses carried journal looks opening places me1 e = e ∙ ap (λ (z : SeatView R E). (view_of number journal z.0, slots_of carried)) (sym e)

  -- what a pass finds where it takes a record doesn't depend on how often it missed
  pub taken_later : (kept : R → List E) (may : ℕ → Opt ℕ → E → Type 0) (settles : E → Bool) (follows : R → R → Type 0)
      {n misses : ℕ} {before missed after : PassFacts R E} {h : HeldFacts R} → missed ≡ record before { misses = misses } →
      FoundFree kept may settles follows n missed after h → FoundFree kept may settles follows n before after h
  taken_later kept may settles follows {n = n} {after = after} {h = h} e t =
      let u = subst (λ (z : PassFacts R E). FoundFree kept may settles follows n z after h) e t in
      record {
        place = u.place;
        untouched = u.untouched;
        free = u.free;
        grew = u.grew;
        own = u.own;
        still_settled = u.still_settled;
        follows_last = u.follows_last;
        follows_opening = u.follows_opening;
        seen = u.seen;
        out = u.out;
        last = u.last;
        others = u.others;
        looks = u.looks;
        holding = u.holding;
        journal = u.journal;
        room = u.room;
        same = record { table = u.same.table; number = u.same.number; opening = u.same.opening };
      }

  drawn_carried : (carried place : Opt ℕ) (event : E) (ts : List (PlaceView R E)) → IsCarried carried ts → IsCarried carried (drawn_places place event ts)
  drawn_carried carried None event ts h = h
  drawn_carried carried (Some n) event ts h = carried_on carried ts n event h

  module _ (kept : R → List E) where
    pub record Taken (slots number room : ℕ) (carried : Opt ℕ) (journal : List (Stamped E)) (place : ℕ) (r : R) (me me1 : SeatView R E) : Type 0 where
      pub holds : PassHolds slots number (option_or carried (Some place)) journal room me1
      pub places : places_of me1.0 ≡ modify place (λ t. place_view (kept r) r (custody_beside carried)) (places_of me.0)
      pub seen : seen_at place (places_of me1.0) ≡ kept r
      pub last : last_at place (places_of me1.0) ≡ Some r
      pub out : out_of place (places_of me1.0) ≡ Some r
      pub misses : misses_of me1.0 ≡ misses_of me.0

    pub taken : (slots number room : ℕ) (carried : Opt ℕ) (journal : List (Stamped E)) (place : ℕ) (r : R) (me me1 : SeatView R E) → PassHolds slots number carried journal room me → place < slots → out_of place (places_of me.0) ≡ None → me1 ≡ (map (took kept place r (custody_beside carried)) me.0, slots_of (option_or carried (Some place)))
        → Taken slots number room carried journal place r me me1
    taken slots number room carried journal place r me me1 h low free e =
        let f : PlaceView R E → PlaceView R E = λ t. place_view (kept r) r (custody_beside carried) in
        let e1 : me1 ≡ (took kept place r (custody_beside carried) (the_view number journal me) ∷ [], slots_of (option_or carried (Some place))) = e ∙ ap (λ (z : SeatView R E). (map (took kept place r (custody_beside carried)) z.0, slots_of (option_or carried (Some place)))) h.tied in
        let ts : List (PlaceView R E) = places_of me.0 in
        let at_places : places_of me1.0 ≡ modify place f ts = ap (λ (z : SeatView R E). places_of z.0) e1 in
        let wide : length ts ≡ slots = h.wide in
        let there = some_at ts place (omega arith) in
        let now = now_at ts (places_of me1.0) place f there.0 at_places there.1 in record {
          holds = record {
            tied = tied_again number (misses_of me.0) (option_or carried (Some place)) journal (look place (length journal) (kept r) ∷ looks_of me.0) (opening_of me.0) (modify place f ts) me1 e1;
            low = h.low;
            short = h.short;
            wide = ap length at_places ∙ (length-modify ts place f ∙ wide);
            inside = inside_with slots place carried h.inside low;
            is_carried = subst (IsCarried (option_or carried (Some place))) (sym at_places) (carried_took carried ts place (kept r) r h.is_carried free);
          };
          places = at_places;
          seen = now.0;
          last = now.1;
          out = now.2 ∙ out_beside carried r;
          misses = ap (λ (z : SeatView R E). misses_of z.0) e1;
        }

    pub record Returned (slots number room : ℕ) (carried : Opt ℕ) (journal : List (Stamped E)) (place : ℕ) (r : R) (me me1 : SeatView R E) : Type 0 where
      pub holds : PassHolds slots number (without place carried) journal room me1
      pub places : places_of me1.0 ≡ modify place (leave r) (places_of me.0)
      pub looks : looks_of me1.0 ≡ look place (length journal) (seen_at place (places_of me.0)) ∷ looks_of me.0
      pub opening : opening_of me1.0 ≡ opening_of me.0
      pub seen : seen_at place (places_of me1.0) ≡ seen_at place (places_of me.0)
      pub last : last_at place (places_of me1.0) ≡ Some r
      pub out : out_of place (places_of me1.0) ≡ None

    pub returned : (slots number room : ℕ) (carried : Opt ℕ) (journal : List (Stamped E)) (place : ℕ) (was r : R) (me me1 : SeatView R E) → PassHolds slots number carried journal room me → out_of place (places_of me.0) ≡ Some was → me1 ≡ (map (released place r) me.0, slots_of (without place carried))
        → Returned slots number room carried journal place r me me1
    returned slots number room carried journal place was r me me1 h out e =
        let e1 : me1 ≡ (released place r (the_view number journal me) ∷ [], slots_of (without place carried)) = e ∙ ap (λ (z : SeatView R E). (map (released place r) z.0, slots_of (without place carried))) h.tied in
        let ts : List (PlaceView R E) = places_of me.0 in
        let at_places : places_of me1.0 ≡ modify place (leave r) ts = ap (λ (z : SeatView R E). places_of z.0) e1 in
        let there = held_there ts place was out in
        let now = now_at ts (places_of me1.0) place (leave r) there.0 at_places there.1 in record {
          holds = record {
            tied = tied_again number (misses_of me.0) (without place carried) journal (look place (length journal) (seen_at place ts) ∷ looks_of me.0) (opening_of me.0) (modify place (leave r) ts) me1 e1;
            low = h.low;
            short = h.short;
            wide = ap length at_places ∙ (length-modify ts place (leave r) ∙ h.wide);
            inside = inside_but slots carried (is_at place carried) h.inside;
            is_carried = subst (IsCarried (without place carried)) (sym at_places) (carried_left carried ts place r h.is_carried);
          };
          places = at_places;
          looks = ap (λ (z : SeatView R E). looks_of z.0) e1;
          opening = ap (λ (z : SeatView R E). opening_of z.0) e1;
          seen = now.0 ∙ sym there.4;
          last = now.1;
          out = now.2;
        }

    module _ (may : ℕ → Opt ℕ → E → Type 0) (follows : R → R → Type 0) where
      pub may_return : (slots number room : ℕ) (carried : Opt ℕ) (journal : List (Stamped E)) (place : ℕ) (was r : R) (me : SeatView R E) → PassHolds slots number carried journal room me → out_of place (places_of me.0) ≡ Some was → kept r ≡ seen_at place (places_of me.0) → follows was r
          → MayReturn kept may follows carried place r me
      may_return slots number room carried journal place was r me h out keeps f = let there = held_there (places_of me.0) place was out in record {
        has = record {
          pass = the_view number journal me;
          is = h.tied;
          is_carried = h.is_carried;
          place = there.0;
          there = there.1;
          out = there.2;
        };
        keeps = keeps ∙ there.4;
        follows_last = subst (λ (z : R). follows z r) (sym there.3) f;
      }

      pub found_free : (slots number room : ℕ) (carried : Opt ℕ) (journal : List (Stamped E)) (place : ℕ) (r : R) (me : SeatView R E) → PassHolds slots number carried journal room me → Each (Found kept may follows place r) me.0 → out_of place (places_of me.0) ≡ None
      found_free slots number room carried journal place r me h found = (subst (λ (z : SeatView R E). Each (Found kept may follows place r) z.0) h.tied found).0.free

  pub held_low : (slots number room : ℕ) (carried : Opt ℕ) (journal : List (Stamped E)) (place : ℕ) (was : R) (me : SeatView R E) → PassHolds slots number carried journal room me → out_of place (places_of me.0) ≡ Some was → place < slots
  held_low slots number room carried journal place was me h out =
      let there = held_there (places_of me.0) place was out in
      let low = at_low (places_of me.0) place there.0 there.1 in
      let wide = h.wide in omega arith

  pub is_holding : (slots number room : ℕ) (carried : Opt ℕ) (journal : List (Stamped E)) (place : ℕ) (was : R) (me : SeatView R E) → PassHolds slots number carried journal room me → out_of place (places_of me.0) ≡ Some was → IsHolding place (places_of me.0)
  is_holding slots number room carried journal place was me h out = let there = held_there (places_of me.0) place was out in (there.0, there.1, there.2)

  pub is_holding_at : (slots number room : ℕ) (carried : Opt ℕ) (journal : List (Stamped E)) (place : Opt ℕ) (me : SeatView R E) → PassHolds slots number carried journal room me → IsOutAt place (places_of me.0) → IsHoldingAt place (places_of me.0)
  is_holding_at slots number room carried journal None me h out = tt
  is_holding_at slots number room carried journal (Some n) me h out = is_holding slots number room carried journal n out.0 me h out.1

  pub record DrewOne (slots number room : ℕ) (carried : Opt ℕ) (journal : List (Stamped E)) (place : Opt ℕ) (event : E) (stamp : ℕ) (me me1 : SeatView R E) : Type 0 where
    pub holds : PassHolds slots number carried (journal ++ stamped stamp place event ∷ []) room me1
    pub places : places_of me1.0 ≡ drawn_places place event (places_of me.0)
    pub looks : looks_of me1.0 ≡ looks_of me.0
    pub opening : opening_of me1.0 ≡ opening_of me.0

  pub drew_one : (slots number room left : ℕ) (carried : Opt ℕ) (journal : List (Stamped E)) (place : Opt ℕ) (event : E) (stamp : ℕ) (me me1 : SeatView R E) → PassHolds slots number carried journal room me → left + 1 ≡ room → me1 ≡ (map (drew place event stamp) me.0, me.1)
      → DrewOne slots number left carried journal place event stamp me me1
  drew_one slots number room left carried journal place event stamp me me1 h less e =
      let e1 : me1 ≡ (drew place event stamp (the_view number journal me) ∷ [], slots_of carried) = e ∙ ap (λ (z : SeatView R E). (map (drew place event stamp) z.0, z.1)) h.tied in
      let ts : List (PlaceView R E) = places_of me.0 in
      let at_places : places_of me1.0 ≡ drawn_places place event ts = ap (λ (z : SeatView R E). places_of z.0) e1 in
      let more = length_snoc journal (stamped stamp place event) in
      let short = h.short in record {
        holds = record {
          tied = tied_again number (misses_of me.0) carried (journal ++ stamped stamp place event ∷ []) (looks_of me.0) (opening_of me.0) (drawn_places place event ts) me1 e1;
          low = h.low;
          short = omega arith;
          wide = ap length at_places ∙ (length-drawn place event ts ∙ h.wide);
          inside = h.inside;
          is_carried = subst (IsCarried carried) (sym at_places) (drawn_carried carried place event ts h.is_carried);
        };
        places = at_places;
        looks = ap (λ (z : SeatView R E). looks_of z.0) e1;
        opening = ap (λ (z : SeatView R E). opening_of z.0) e1;
      }

  -- a lock was found taken
  pub record Missed (slots number room : ℕ) (carried : Opt ℕ) (journal : List (Stamped E)) (me me1 : SeatView R E) : Type 0 where
    pub holds : PassHolds slots number carried journal room me1
    pub places : places_of me1.0 ≡ places_of me.0
    pub looks : looks_of me1.0 ≡ looks_of me.0
    pub opening : opening_of me1.0 ≡ opening_of me.0
    pub misses : misses_of me1.0 ≡ misses_of me.0 + 1

  pub missed_one : (slots number room : ℕ) (carried : Opt ℕ) (journal : List (Stamped E)) (me me1 : SeatView R E) → PassHolds slots number carried journal room me → me1 ≡ (map missed me.0, me.1) → Missed slots number room carried journal me me1
  missed_one slots number room carried journal me me1 h e =
      let e1 : me1 ≡ (missed (the_view number journal me) ∷ [], slots_of carried) = e ∙ ap (λ (z : SeatView R E). (map missed z.0, z.1)) h.tied in
      let at_places : places_of me1.0 ≡ places_of me.0 = ap (λ (z : SeatView R E). places_of z.0) e1 in record {
        holds = record {
          tied = tied_again number (suc (misses_of me.0)) carried journal (looks_of me.0) (opening_of me.0) (places_of me.0) me1 e1;
          low = h.low;
          short = h.short;
          wide = ap length at_places ∙ h.wide;
          inside = h.inside;
          is_carried = subst (IsCarried carried) (sym at_places) h.is_carried;
        };
        places = at_places;
        looks = ap (λ (z : SeatView R E). looks_of z.0) e1;
        opening = ap (λ (z : SeatView R E). opening_of z.0) e1;
        misses = ap (λ (z : SeatView R E). misses_of z.0) e1 ∙ (let a : suc (misses_of me.0) ≡ misses_of me.0 + 1 = omega arith in a);
      }

  -- a place was seen to be settled
  pub record Knew (slots number room : ℕ) (carried : Opt ℕ) (journal : List (Stamped E)) (place : ℕ) (seen : List E) (me me1 : SeatView R E) : Type 0 where
    pub holds : PassHolds slots number carried journal room me1
    pub places : places_of me1.0 ≡ modify place (learn seen) (places_of me.0)
    pub looks : looks_of me1.0 ≡ look place (length journal) seen ∷ looks_of me.0
    pub opening : opening_of me1.0 ≡ opening_of me.0
    pub misses : misses_of me1.0 ≡ misses_of me.0
    pub seen_now : seen_at place (places_of me1.0) ≡ seen
    pub last : last_at place (places_of me1.0) ≡ last_at place (places_of me.0)
    pub out : out_of place (places_of me1.0) ≡ out_of place (places_of me.0)

  pub knew : (slots number room : ℕ) (carried : Opt ℕ) (journal : List (Stamped E)) (place : ℕ) (seen : List E) (me me1 : SeatView R E) → PassHolds slots number carried journal room me → place < slots → me1 ≡ (map (saw place seen) me.0, me.1) → Knew slots number room carried journal place seen me me1
  knew slots number room carried journal place seen me me1 h low e =
      let e1 : me1 ≡ (saw place seen (the_view number journal me) ∷ [], slots_of carried) = e ∙ ap (λ (z : SeatView R E). (map (saw place seen) z.0, z.1)) h.tied in
      let ts : List (PlaceView R E) = places_of me.0 in
      let at_places : places_of me1.0 ≡ modify place (learn seen) ts = ap (λ (z : SeatView R E). places_of z.0) e1 in
      let wide : length ts ≡ slots = h.wide in
      let there = some_at ts place (omega arith) in
      let now = now_at ts (places_of me1.0) place (learn seen) there.0 at_places there.1 in record {
        holds = record {
          tied = tied_again number (misses_of me.0) carried journal (look place (length journal) seen ∷ looks_of me.0) (opening_of me.0) (modify place (learn seen) ts) me1 e1;
          low = h.low;
          short = h.short;
          wide = ap length at_places ∙ (length-modify ts place (learn seen) ∙ wide);
          inside = h.inside;
          is_carried = subst (IsCarried carried) (sym at_places) (carried_learned carried ts place seen h.is_carried);
        };
        places = at_places;
        looks = ap (λ (z : SeatView R E). looks_of z.0) e1;
        opening = ap (λ (z : SeatView R E). opening_of z.0) e1;
        misses = ap (λ (z : SeatView R E). misses_of z.0) e1;
        seen_now = now.0;
        last = now.1 ∙ sym (last_is ts place there.0 there.1);
        out = now.2 ∙ sym (out_is ts place there.0 there.1);
      }

  pub holds_still : (may : ℕ → Opt ℕ → E → Type 0) (settles : E → Bool) (lawful : List E → Type 0) (slots number room : ℕ) (carried : Opt ℕ) (journal : List (Stamped E)) (place : ℕ) (me me1 : SeatView R E) (b : Bool) → MatchBool b (LearnsAt may settles lawful place me me1) (me1 ≡ me) → PassHolds slots number carried journal room me → place < slots
      → PassHolds slots number carried journal room me1
  holds_still may settles lawful slots number room carried journal place me me1 true learned h low = (knew slots number room carried journal place learned.0 me me1 h low learned.1).holds
  holds_still may settles lawful slots number room carried journal place me me1 false same h low = subst (λ (z : SeatView R E). PassHolds slots number carried journal room z) (sym same) h

  -- a pass as callers see it
  abbrev pub facts : TableId → ℕ → List (Stamped E) → ℕ → SeatView R E → PassFacts R E
  facts table number journal room me = record { table = table; number = number; misses = misses_of me.0; journal = journal; room = room; looks = looks_of me.0; opening = opening_of me.0; places = places_of me.0 }

  away_still : (ts us : List (PlaceView R E)) (n : ℕ) (f : PlaceView R E → PlaceView R E) → us ≡ modify n f ts → out_of n us ≡ out_of n ts → IsAway ts → IsAway us
  away_still ts us n f e out a = record { none_out = λ m. dite (ℕ_discrete m n) (λ same. ap (λ (z : ℕ). out_of z us) same ∙ (out ∙ a.none_out n)) (λ other. (others_same ts us n f e m other).out ∙ a.none_out m) }

  pub knows_done : (may : ℕ → Opt ℕ → E → Type 0) (settles : E → Bool) (lawful : List E → Type 0) (slots number room : ℕ) (carried : Opt ℕ) (journal : List (Stamped E)) (place : ℕ) (me me1 : SeatView R E) (table table1 : TableId) (b : Bool) → MatchBool b (LearnsAt may settles lawful place me me1) (me1 ≡ me)
      → PassHolds slots number carried journal room me → place < slots → table1 ≡ table → MatchBool b (KnowsDone may settles lawful place (facts table number journal room me) (facts table1 number journal room me1)) (facts table1 number journal room me1 ≡ facts table number journal room me)
  knows_done may settles lawful slots number room carried journal place me me1 table table1 true learned h low same =
      let seen : List E = learned.0 in
      let k = knew slots number room carried journal place seen me me1 h low learned.1 in
      let l : Learned may settles lawful place seen (the_view number journal me) = (subst (λ (z : SeatView R E). Each (Learned may settles lawful place seen) z.0) h.tied learned.2).0 in
      let is : seen ≡ seen_at place (places_of me1.0) = sym k.seen_now in
      record {
        settled_now = ap (settled settles) k.seen_now ∙ l.settled_now;
        lawful_now = subst lawful is l.lawful_now;
        grew = subst (Grew may number place (seen_at place (places_of me.0))) is l.grew;
        looks = k.looks ∙ ap (λ (z : List E). look place (length journal) z ∷ looks_of me.0) is;
        out = k.out;
        last = k.last;
        others = others_same (places_of me.0) (places_of me1.0) place (learn seen) k.places;
        away = away_still (places_of me.0) (places_of me1.0) place (learn seen) k.places k.out;
        misses = k.misses;
        journal = refl;
        room = refl;
        same = record { table = same; number = refl; opening = k.opening };
      }
  knows_done may settles lawful slots number room carried journal place me me1 table table1 false unmoved h low same = (λ i. facts (same i) number journal room (unmoved i))

  pub has_settled : (settles : E → Bool) (slots number room : ℕ) (carried : Opt ℕ) (journal : List (Stamped E)) (place : ℕ) (was : R) (me : SeatView R E) → PassHolds slots number carried journal room me → out_of place (places_of me.0) ≡ Some was → settled settles (seen_at place (places_of me.0)) ≡ true → HasSettled settles carried place me
  has_settled settles slots number room carried journal place was me h out done = let there = held_there (places_of me.0) place was out in record {
    has = record {
      pass = the_view number journal me;
      is = h.tied;
      is_carried = h.is_carried;
      place = there.0;
      there = there.1;
      out = there.2;
    };
    settled_now = ap (settled settles) (sym there.4) ∙ done;
  }

  pub new_holds : (slots number room : ℕ) (journal : List (Stamped E)) (rs : List R) (me : SeatView R E) → me ≡ (pass_view number 0 [] [] rs (unseen rs) ∷ [], []) → journal ≡ [] → room ≡ 0 → number < 16 → length rs ≡ slots → PassHolds slots number None journal room me
  new_holds slots number room journal rs me e empty none low wide =
      let at_places : places_of me.0 ≡ unseen rs = ap (λ (z : SeatView R E). places_of z.0) e in record {
        tied = e ∙ (λ i. (pass_view number (misses_of (sym e i).0) (sym empty i) (looks_of (sym e i).0) (opening_of (sym e i).0) (places_of (sym e i).0) ∷ [], []));
        low = low;
        short = let a = ap length empty in omega arith;
        wide = ap length at_places ∙ (length_map (λ r. place_view [] r Away) rs ∙ wide);
        inside = tt;
        is_carried = subst (IsCarried None) (sym at_places) (λ n t at. ((λ c. absurd (all_at (λ u. u.custody ≢ Carried) (unseen rs) n t (unseen_none_carried E rs) at c)), λ f. cc));
      }

  pub is_new : (id : TableId) (rs : List R) (p : PassFacts R E) (me : SeatView R E) (number : ℕ) → me ≡ (pass_view number 0 [] [] rs (unseen rs) ∷ [], []) → p.table ≡ id → p.journal ≡ [] → p.room ≡ 0
      → p.looks ≡ looks_of me.0 → p.opening ≡ opening_of me.0 → p.places ≡ places_of me.0 → IsNewPass id rs p
  is_new id rs p me number e t j r l o s = record {
    table = t;
    journal = j;
    room = r;
    looks = l ∙ ap (λ (z : SeatView R E). looks_of z.0) e;
    opening = o ∙ ap (λ (z : SeatView R E). opening_of z.0) e;
    places = s ∙ ap (λ (z : SeatView R E). places_of z.0) e;
    seen = λ n. ap (seen_at n) (s ∙ ap (λ (z : SeatView R E). places_of z.0) e) ∙ unseen_seen E rs n;
    last = λ n. ap (last_at n) (s ∙ ap (λ (z : SeatView R E). places_of z.0) e) ∙ unseen_last E rs n;
    away = subst IsAway (sym (s ∙ ap (λ (z : SeatView R E). places_of z.0) e)) (unseen_away E rs);
  }

  -- a pass that has no record out carries no slot
  pub carries_none : (slots number room : ℕ) (carried : Opt ℕ) (journal : List (Stamped E)) (me : SeatView R E) → PassHolds slots number carried journal room me → IsAway (places_of me.0) → me.1 ≡ []
  carries_none slots number room carried journal me h away = ap (λ (z : SeatView R E). z.1) h.tied ∙ ap slots_of (none_carried carried (places_of me.0) slots h.is_carried h.inside h.wide away)
