use Rattle.std.proofs.Common.{◌≡◌, ℕ, true, false, List, length, sym, subst, rules}
use Rattle.std.specs.List.{AllAdjacentBelow, IsAllAdjacentAnswer}
use Rattle.std.specs.List.Sorted.{IsPermutation}
use Rattle.std.specs.Ordering.{is_lt}
use Rattle.std.proofs.lemmas.Fn.{always_returns_same}
use Rattle.std.proofs.lemmas.List.Sorted.{ranks_by}
use Rattle.hierarchy.specs.MemberOrder.{key_of_method, key_at, place_cmp}
use Rattle.hierarchy.specs.Members.{same_method_member}
use Rattle.hierarchy.proofs.MemberOrder.{key_total, method_tells}
use Rattle.hierarchy.proofs.MemberPlaces.{sorted_places, twice_declared}
use Rattle.hierarchy.proofs.member_places.method_places.Goals as goal

pub returns-then-rise-clause-sorted : goal.returns-then-rise-clause-sorted
returns-then-rise-clause-sorted c =
    let xs = c.args.methods.now in
    let places = c.sort_unstable_by.new.self.items in
    let moved = subst (λ from. IsPermutation from places) c.in_ok-places.ensures c.sort_unstable_by.ensures.permutation in
    let up = c.if-rise.ensures.cases (λ j k. is_lt (place_cmp key_of_method xs j k)) (always_returns_same _ _ _ (λ a r f h. search rules)) in
    (sorted_places key_of_method same_method_member (λ x y. method_tells y.name y.method_type x) xs places moved (subst (λ (ks : List ℕ). AllAdjacentBelow (λ j k. true ≡ is_lt (place_cmp key_of_method xs j k)) ks (length ks)) c.deref.ensures.value up)).0

pub returns-then-rise-clause-repeated : goal.returns-then-rise-clause-repeated
returns-then-rise-clause-repeated c =
    let xs = c.args.methods.now in
    let places = c.sort_unstable_by.new.self.items in
    let moved = subst (λ from. IsPermutation from places) c.in_ok-places.ensures c.sort_unstable_by.ensures.permutation in
    let up = c.if-rise.ensures.cases (λ j k. is_lt (place_cmp key_of_method xs j k)) (always_returns_same _ _ _ (λ a r f h. search rules)) in
    sym (sorted_places key_of_method same_method_member (λ x y. method_tells y.name y.method_type x) xs places moved (subst (λ (ks : List ℕ). AllAdjacentBelow (λ j k. true ≡ is_lt (place_cmp key_of_method xs j k)) ks (length ks)) c.deref.ensures.value up)).1

pub returns-else-rise-clause-repeated : goal.returns-else-rise-clause-repeated
returns-else-rise-clause-repeated c =
    let xs = c.args.methods.now in
    let places = c.sort_unstable_by.new.self.items in
    let moved = subst (λ from. IsPermutation from places) c.in_ok-places.ensures c.sort_unstable_by.ensures.permutation in
    let sorted = c.sort_unstable_by.ensures.sorted (λ j k. is_lt (place_cmp key_of_method xs j k)) (ranks_by key_total (key_at key_of_method xs)) (always_returns_same _ _ _ (λ a r f h. search rules)) in
    let pair = c.if-rise.ensures.cases (λ j k. is_lt (place_cmp key_of_method xs j k)) (always_returns_same _ _ _ (λ a r f h. search rules)) in
    let there = subst (λ (ks : List ℕ). IsAllAdjacentAnswer (λ j k b. b ≡ is_lt (place_cmp key_of_method xs j k)) ks false) c.deref.ensures.value pair in
    sym (twice_declared key_of_method same_method_member (λ x y. method_tells y.name y.method_type x) xs places moved sorted there.0 there.1 there.2)
