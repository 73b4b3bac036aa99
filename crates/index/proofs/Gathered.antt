-- Numbers that pass a test, gathered one after another.
use Rattle.std.proofs.Common.{◌≡◌, ℕ, zero, suc, ◌+◌, ◌-◌, ◌<◌, Bool, true, false, ◌&&◌, leb, ltb, List, [], ◌∷◌, ◌++◌, map, filter, length, get_or, Option, Some, sym, refl, ap, ◌∙◌, subst, ap₂, map-id, add-one, arith}
use Rattle.std.proofs.lemmas.List.FromFn.{map-range_with_len_more, get_or-map-range_with_len, length-range_with_len}
use Rattle.std.proofs.lemmas.Bool.{and_parts, and_from, ltb-true, lt-ltb}
use Rattle.std.proofs.lemmas.Iterator.{YieldsList, items_from_drains}
use Rattle.std.proofs.lemmas.Iterator.Consumers.{YieldsList-from_shown}
use Rattle.std.specs.Range.{range_inclusive_left, range_inclusive_len, range_inclusive_steps, range_inclusive_start, range_inclusive_end, range_inclusive_exhausted}
use Rattle.std.specs.declared.ops.RangeInclusive.{RangeInclusive}
use Rattle.std.proofs.lemmas.Bool.Decides.{nat_tests}
use Rattle.std.specs.Iterator.{Drains}
use Rattle.std.specs.List.{range_with_len}
use Rattle.ragged.specs.Lists.{lists_of, open_of}
use Rattle.ragged.specs.declared.store.Lists.{Lists}
use Rattle.model.specs.Rows.{Row, elem, on, row_at, workable}
use Rattle.model.proofs.Workable.{flag_below}
use Rattle.index.specs.Gathering.{ClosesWith}
use Rattle.index.specs.Indexes.{rows_with, flags_in, those, Indexes, IndexFinds}
use Rattle.index.specs.declared.Index.{Index}

-- one list more is closed
pub closed_more : (g : ℕ → List ℕ) (n : ℕ) (items : List ℕ) (now after : Lists ℕ) → items ≡ g n
    → (lists_of now ≡ map g (range_with_len 0 n)) × (open_of now ≡ []) → ClosesWith items now after
    → (lists_of after ≡ map g (range_with_len 0 (n + 1))) × (open_of after ≡ [])
closed_more g n items now after e so_far c = (
  c.closed ∙ ap₂ (λ xs ys. xs ++ ys ∷ []) so_far.0 (ap (λ xs. xs ++ items) so_far.1 ∙ e) ∙ sym (map-range_with_len_more g 0 n n (omega arith)),
  c.opened,
)

-- the items that a chain gives are its list
pub drained : {S : Type 0} {steps : S → Option ℕ → S → Type 0} {s : S} {all : List ℕ} → (xs : List ℕ) → Drains steps s xs → YieldsList steps (λ x. x) s all → xs ≡ all
drained xs d road = sym (map-id xs) ∙ items_from_drains xs (d.1.0, d.1.1, λ _. (d.0, d.1.2)) road

-- the numbers a..=b, as a chain begins at them
abbrev left : RangeInclusive ℕ → ℕ
left s = range_inclusive_left (λ x y. y - x) s

abbrev steps : RangeInclusive ℕ → Option ℕ → RangeInclusive ℕ → Type 0
steps = range_inclusive_steps (λ x y. y - x) (λ x y. y ≡ x + 1)

one_less : (s : RangeInclusive ℕ) (x : ℕ) (t : RangeInclusive ℕ) → steps s (Some x) t → range_with_len (range_inclusive_start s) (left s) ≡ x ∷ range_with_len (range_inclusive_start t) (left t)
one_less s x t h = by (range_inclusive_exhausted t) refl
  where
    by : (b : Bool) → range_inclusive_exhausted t ≡ b → range_with_len (range_inclusive_start s) (left s) ≡ x ∷ range_with_len (range_inclusive_start t) (left t)
    by true e =
        let none : left t ≡ 0 = ap (range_inclusive_len (λ a b. b - a) (range_inclusive_start t) (range_inclusive_end t)) e in
        let last : left s ≡ 1 = omega arith in
        ap (range_with_len (range_inclusive_start s)) last ∙ ap₂ (λ y n. y ∷ range_with_len (range_inclusive_start t) n) (sym h.1.0) (sym none)
    by false e =
        ap (range_with_len (range_inclusive_start s)) (sym h.1.1 ∙ add-one (left t)) ∙ ap₂ (λ y m. y ∷ range_with_len m (left t)) (sym h.1.0) (sym (h.1.2 e))

pub YieldsList-from_range_inclusive : {s : RangeInclusive ℕ} (r : RangeInclusive ℕ) (b : ℕ) → s ≡ r → range_inclusive_start r ≡ 0 → range_inclusive_end r ≡ b → range_inclusive_exhausted r ≡ false → YieldsList steps (λ x. x) s (range_with_len 0 (b + 1))
YieldsList-from_range_inclusive {s} r b is e f x =
    let fresh : left r ≡ b + 1 = omega (arith, ap (range_inclusive_len (λ a b. b - a) (range_inclusive_start r) (range_inclusive_end r)) x) in
    subst (λ t. YieldsList steps (λ x. x) t (range_with_len 0 (b + 1))) (sym is)
    (subst (λ xs. YieldsList steps (λ x. x) r xs) (ap₂ range_with_len e fresh)
    (YieldsList-from_shown steps (λ x. x) (λ t. range_with_len (range_inclusive_start t) (left t)) (λ t u h. length-range_with_len (range_inclusive_start t) (left t) ∙ h.1.0) one_less r))

elem-filter : (p : ℕ → Bool) (k : ℕ) (xs : List ℕ) → elem k (filter p xs) ≡ (elem k xs && p k)
elem-filter p k [] = refl
elem-filter p k (x ∷ xs) = grind (arith, nat_tests, elem-filter p k xs)

elem-range : (k a n : ℕ) → elem k (range_with_len a n) ≡ (leb a k && ltb k (a + n))
elem-range k a zero = grind (arith, nat_tests)
elem-range k a (suc n) = grind (arith, nat_tests, elem-range k (a + 1) n)

-- a number is among them exactly when it is below n and passes
elem-those : (p : ℕ → Bool) (n k : ℕ) → elem k (those p n) ≡ (ltb k n && p k)
unfolding those
elem-those p n k = elem-filter p k (range_with_len 0 n) ∙ ap (λ b. b && p k) (elem-range k 0 n ∙ grind (arith, nat_tests))

-- the list of a key
listed_at : (g : ℕ → List ℕ) (n k : ℕ) (xss : List (List ℕ)) → xss ≡ map g (range_with_len 0 n) → k < n → get_or xss k [] ≡ g k
listed_at g n k xss e l = ap (λ ys. get_or ys k []) e ∙ get_or-map-range_with_len g 0 n k k [] l (omega arith)

-- the lists of both ways are the index
pub indexed : (rows : List Row) (index : Index)
    → lists_of index.rows ≡ map (λ f. those (λ k. on (row_at rows k) f) (length (workable rows))) (range_with_len 0 256)
    → lists_of index.flags ≡ map (λ k. those (on (row_at rows k)) 256) (range_with_len 0 (length (workable rows)))
    → Indexes rows index
indexed rows index e h = record {
  by_flag = λ f l. listed_at (λ f. those (λ k. on (row_at rows k) f) (length (workable rows))) 256 f (lists_of index.rows) e l;
  by_row = λ k l. listed_at (λ k. those (on (row_at rows k)) 256) (length (workable rows)) k (lists_of index.flags) h l;
}

-- the rows that are listed at a flag are those that have it, and the flags that are listed at a row are its own
module _ (rows : List Row) (index : Index) (i : Indexes rows index) where
  row_listed : (f k : ℕ) → f < 256 → elem k (rows_with index f) ≡ (ltb k (length (workable rows)) && on (row_at rows k) f)
  row_listed f k l = ap (elem k) (i.by_flag f l) ∙ elem-those (λ k. on (row_at rows k) f) (length (workable rows)) k

  flag_listed : (f k : ℕ) → k < length (workable rows) → elem f (flags_in index k) ≡ (ltb f 256 && on (row_at rows k) f)
  flag_listed f k l = ap (elem f) (i.by_row k l) ∙ elem-those (on (row_at rows k)) 256 f

pub index_finds : IndexFinds
index_finds rows index fit i = record {
  rows_found = λ k f l o. row_listed rows index i f k (flag_below rows fit k f o) ∙ and_from (ltb k (length (workable rows))) (on (row_at rows k) f) (lt-ltb k (length (workable rows)) l) o;
  flags_found = λ k f l o. flag_listed rows index i f k l ∙ and_from (ltb f 256) (on (row_at rows k) f) (lt-ltb f 256 (flag_below rows fit k f o)) o;
  only_rows = λ k f l e.
      let p = and_parts (ltb k (length (workable rows))) (on (row_at rows k) f) (sym (row_listed rows index i f k l) ∙ e) in
      (ltb-true k (length (workable rows)) p.0, p.1);
  only_flags = λ k f l e. (and_parts (ltb f 256) (on (row_at rows k) f) (sym (flag_listed rows index i f k l) ∙ e)).1;
}
