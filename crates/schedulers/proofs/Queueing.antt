-- Lines that stand in a circle of places, with marks for the numbers in them.
use Rattle.std.proofs.Common.{◌≡◌, ℕ, zero, suc, ◌+◌, ◌-◌, ◌%◌, ◌<◌, Bool, true, false, not, ◌&&◌, ◌||◌, eqb, ltb, ◌≢◌, List, [], ◌∷◌, ◌++◌, length, get_or, set, Some, Option, sym, refl, ap, ◌∙◌, arith}
use Rattle.std.proofs.lemmas.List.{get_or-set_same, get_or-set_other, length-set}
use Rattle.std.proofs.lemmas.Option.{none-some, same_Some}
use Rattle.std.proofs.Math.Bool.{or_comm, or_assoc}
use Rattle.std.proofs.lemmas.Bool.{and_parts, and_from, ltb-true, lt-ltb, not-true, not_from_false, or_left, or_parts, or_from, eqb-false, eq-eqb, ne_eqb, cond-true}
use Rattle.std.proofs.lemmas.Grind.{common_steps}
use Rattle.std.proofs.lemmas.Bool.Decides.{nat_tests}
use Rattle.model.specs.Refusals.{some_twice}
use Rattle.model.specs.Rows.{elem}
use Rattle.schedulers.specs.Bounds.{marked_within}
use Rattle.schedulers.specs.Marks.{marked}
use Rattle.schedulers.specs.Rings.{after}
use Rattle.schedulers.specs.Queues.{line_of, joins, serves, Sound}
use Rattle.schedulers.proofs.Marking.{marked_set, marked_unset, tally_more, tally_fewer, tally_room}

-- where a line serves a number, it stands at the start, and the rest begins at the next place
line_first : (order : List ℕ) (start len row : ℕ) → (serves (line_of order start len)).0 ≡ Some row → (0 < len) × (line_of order start len ≡ row ∷ line_of order (after start) (len - 1))
line_first order start zero row e = absurd (none-some row e)
line_first order start (suc n) row e =
    let first : get_or order start 0 ≡ row = same_Some _ _ e in
    let fewer : n ≡ suc n - 1 = omega arith in
    (omega arith, cc)

-- a number that is put at the place after a line stands at its end
line_push : (order : List ℕ) (row place : ℕ) → length order ≡ 1024 → (len start : ℕ) → start < 1024 → len < 1024 → place ≡ (start + len) % 1024 → line_of (set order place row) start (len + 1) ≡ line_of order start len ++ (row ∷ [])
line_push order row place size zero start s l e =
    let at : start ≡ place = omega arith in
    let within : place < length order = omega arith in
    ap (λ x. x ∷ []) (ap (λ p. get_or (set order place row) p 0) at ∙ get_or-set_same order place row 0 within)
line_push order row place size (suc n) start s l e =
    let more : suc n + 1 ≡ suc (n + 1) = omega arith in
    let other : start ≢ place = omega arith in
    let inside : after start < 1024 = omega arith in
    let far : place ≡ (after start + n) % 1024 = omega arith in
    ap (line_of (set order place row) start) more
    ∙ ap (λ x. x ∷ line_of (set order place row) (after start) (n + 1)) (get_or-set_other order place start row 0 other)
    ∙ ap (λ xs. get_or order start 0 ∷ xs) (line_push order row place size n (after start) inside (omega arith) far)

-- what stands in a line with one more at its end
pub elem_push : (j k : ℕ) (ks : List ℕ) → elem j (ks ++ (k ∷ [])) ≡ (eqb j k || elem j ks)
elem_push j k [] = refl
elem_push j k (i ∷ is) = ap (λ t. eqb j i || t) (elem_push j k is) ∙ grind (arith, or_comm, or_assoc)

-- a number that does not stand in a line goes to its end, and still none stands there twice
twice_push : (k : ℕ) (ks : List ℕ) → elem k ks ≡ false → some_twice ks ≡ false → some_twice (ks ++ (k ∷ [])) ≡ false
twice_push k [] n o = refl
twice_push k (i ∷ is) n o =
    let here = or_parts (eqb k i) (elem k is) n in
    let rest = or_parts (elem i is) (some_twice is) o in
    let apart : eqb i k ≡ false = ne_eqb i k (λ e. eqb-false k i here.0 (sym e)) in
    or_from (elem i (is ++ (k ∷ []))) (some_twice (is ++ (k ∷ []))) (elem_push i k is ∙ or_from (eqb i k) (elem i is) apart rest.0) (twice_push k is here.1 rest.1)

module _ (order : List ℕ) (start len : ℕ) (waiting : List Bool) (q : Sound order start len waiting) where
  -- a number that does not wait yet is put at the place after the line
  module _ (row : ℕ) (is-new : (ltb row 1024 && not (marked waiting row)) ≡ true) where
    pub low : row < 1024
    low = ltb-true row 1024 (and_parts (ltb row 1024) _ is-new).0

    new : marked waiting row ≡ false
    new = not-true _ (and_parts (ltb row 1024) _ is-new).1

    absent : elem row (line_of order start len) ≡ false
    absent = sym (q.members row) ∙ new

    within : row < length waiting
    within = omega (arith, low, q.marks)

    room : len < 1024
    room = omega (arith, q.marks, q.count, tally_room waiting row within new)

    pushed : line_of (set order ((start + len) % 1024) row) start (len + 1) ≡ line_of order start len ++ (row ∷ [])
    pushed = line_push order row _ q.places len start q.inside room refl

    pub joined : line_of (set order ((start + len) % 1024) row) start (len + 1) ≡ joins (line_of order start len) row
    joined = pushed ∙ sym (cond-true _ _ _ (and_from (ltb row 1024) _ (lt-ltb row 1024 low) (not_from_false _ absent)))

    pub now_waiting : (k : ℕ) → marked (set waiting row true) k ≡ (eqb k row || marked waiting k)
    now_waiting = marked_set waiting row within

    pub sound_joined : Sound (set order ((start + len) % 1024) row) start (len + 1) (set waiting row true)
    sound_joined = record {
      places = length-set order _ row ∙ q.places;
      marks = length-set waiting row true ∙ q.marks;
      inside = q.inside;
      short = omega (arith, room);
      members = λ k. now_waiting k ∙ ap (λ t. eqb k row || t) (q.members k) ∙ sym (ap (elem k) pushed ∙ elem_push k row _);
      once = ap some_twice pushed ∙ twice_push row _ absent q.once;
      count = tally_more waiting row within new ∙ ap (λ n. n + 1) q.count;
    }

  -- the number that the line serves is taken
  module _ (row : ℕ) (first : (serves (line_of order start len)).0 ≡ Some row) where
    pub some : 0 < len
    some = (line_first order start len row first).0

    whole : line_of order start len ≡ row ∷ line_of order (after start) (len - 1)
    whole = (line_first order start len row first).1

    pub served : ◌≡◌ {A = Option ℕ × List ℕ} (Some row, line_of order (after start) (len - 1)) (serves (line_of order start len))
    served = sym (ap serves whole)

    pub first_waits : marked waiting row ≡ true
    first_waits = q.members _ ∙ ap (elem row) whole ∙ or_left _ _ (eq-eqb row row refl)

    pub first_low : row < 1024
    first_low = marked_within waiting 1024 _ q.marks first_waits

    parts : (elem row (line_of order (after start) (len - 1)) ≡ false) × (some_twice (line_of order (after start) (len - 1)) ≡ false)
    parts = or_parts _ _ (sym (ap some_twice whole) ∙ q.once)

    gone : (k : ℕ) → (not (eqb k row) && marked waiting k) ≡ elem k (line_of order (after start) (len - 1))
    gone k = grind (arith, common_steps, nat_tests, parts.0, q.members k, ap (elem k) whole)

    pub still_waiting : (k : ℕ) → marked (set waiting row false) k ≡ (not (eqb k row) && marked waiting k)
    still_waiting = marked_unset waiting _ (omega (arith, first_low, q.marks))

    pub sound_served : Sound order (after start) (len - 1) (set waiting row false)
    sound_served = record {
      places = q.places;
      marks = length-set waiting _ false ∙ q.marks;
      inside = omega arith;
      short = omega (arith, q.short);
      members = λ k. still_waiting k ∙ gone k;
      once = parts.1;
      count = omega (arith, tally_fewer waiting _ (omega (arith, first_low, q.marks)) first_waits, q.count);
    }
