-- Parts of a list: one item more, one end more, and where a part stands.
use Rattle.std.proofs.Common.{◌≡◌, ℕ, zero, suc, ◌+◌, ◌-◌, ◌<◌, ◌≤◌, true, leb, List, [], ◌∷◌, ◌++◌, length, get_or, take, drop, refl, ap, ◌∙◌, ap₂, le_of_suc-le-suc, arith}
use Rattle.std.proofs.lemmas.List.{length-take-le, length-drop, take-append-le, drop-append-le}
use Rattle.std.proofs.lemmas.Bool.{and_parts, and_from, leb-true, le-leb}
use Rattle.std.specs.List.{between}
use Rattle.ragged.specs.Parts.{parts, last_end, ascends, total_length}

-- what ends that rise say of the first and of the last one
pub first_low : (from size : ℕ) (ends : List ℕ) → ascends from ends size ≡ true → from ≤ last_end from ends
first_low from size [] a = omega arith
first_low from size (end ∷ ends) a =
    let p = and_parts (leb from end) (ascends end ends size) a in
    omega (arith, leb-true from end p.0, first_low end size ends p.1)

pub last_low : (from size : ℕ) (ends : List ℕ) → ascends from ends size ≡ true → last_end from ends ≤ size
last_low from size [] a = leb-true from size a
last_low from size (end ∷ ends) a = last_low end size ends (and_parts (leb from end) (ascends end ends size) a).1

-- they rise below a larger size too, and one more end at the size
pub ascends_more : (from size more : ℕ) (ends : List ℕ) → size ≤ more → ascends from ends size ≡ true → ascends from ends more ≡ true
ascends_more from size more [] l a = le-leb from more (let h = leb-true from size a in omega arith)
ascends_more from size more (end ∷ ends) l a =
    let p = and_parts (leb from end) (ascends end ends size) a in
    and_from (leb from end) (ascends end ends more) p.0 (ascends_more end size more ends l p.1)

pub ascends_push : (from size : ℕ) (ends : List ℕ) → ascends from ends size ≡ true → ascends from (ends ++ size ∷ []) size ≡ true
ascends_push from size [] a = and_from (leb from size) (leb size size) a (le-leb size size (omega arith))
ascends_push from size (end ∷ ends) a =
    let p = and_parts (leb from end) (ascends end ends size) a in
    and_from (leb from end) (ascends end (ends ++ size ∷ []) size) p.0 (ascends_push end size ends p.1)

module _ {A : Type 0} where
  between_more : (from end : ℕ) (items more : List A) → from ≤ end → end ≤ length items → between from end (items ++ more) ≡ between from end items
  between_more from end items more l h =
      let e : length (drop from items) ≡ length items - from = length-drop from items in
      ap (take (end - from)) (drop-append-le from items more (omega arith)) ∙ take-append-le (end - from) (drop from items) more (omega arith)

  -- more items leave the parts as they are
  pub parts_more : (from : ℕ) (ends : List ℕ) (items more : List A) → ascends from ends (length items) ≡ true → parts from ends (items ++ more) ≡ parts from ends items
  parts_more from [] items more a = refl
  parts_more from (end ∷ ends) items more a =
      let p = and_parts (leb from end) (ascends end ends (length items)) a in
      let l = leb-true from end p.0 in
      let h : end ≤ length items = omega (arith, first_low end (length items) ends p.1, last_low end (length items) ends p.1) in
      ap₂ (λ x xs. x ∷ xs) (between_more from end items more l h) (parts_more end ends items more p.1)

  -- one end more is one part more
  pub parts_push : (from : ℕ) (ends : List ℕ) (end : ℕ) (items : List A) → parts from (ends ++ end ∷ []) items ≡ parts from ends items ++ between (last_end from ends) end items ∷ []
  parts_push from [] end items = refl
  parts_push from (e ∷ es) end items = ap (λ xs. between from e items ∷ xs) (parts_push e es end items)

  pub length-parts : (from : ℕ) (ends : List ℕ) (items : List A) → length (parts from ends items) ≡ length ends
  length-parts from [] items = refl
  length-parts from (end ∷ ends) items = ap suc (length-parts end ends items)

  -- the items of the parts, and those past the last of them, are all
  pub parts_total : (from : ℕ) (ends : List ℕ) (items : List A) → ascends from ends (length items) ≡ true → from + (total_length (parts from ends items) + length (drop (last_end from ends) items)) ≡ length items
  parts_total from [] items a = let h = leb-true from (length items) a in omega (arith, length-drop from items)
  parts_total from (end ∷ ends) items a =
      let p = and_parts (leb from end) (ascends end ends (length items)) a in
      let l = leb-true from end p.0 in
      let h : end ≤ length items = omega (arith, first_low end (length items) ends p.1, last_low end (length items) ends p.1) in
      let d : length (drop from items) ≡ length items - from = length-drop from items in
      let e : length (between from end items) ≡ end - from = length-take-le (end - from) (drop from items) (omega arith) in
      omega (arith, parts_total end ends items p.1)

  -- a part stands from the end before it to its own
  pub part_at : (from : ℕ) (ends : List ℕ) (items : List A) (k : ℕ) → k < length ends → get_or (parts from ends items) k [] ≡ between (get_or (from ∷ ends) k 0) (get_or ends k 0) items
  part_at from [] items k l = absurd (omega arith)
  part_at from (end ∷ ends) items zero l = refl
  part_at from (end ∷ ends) items (suc k) l = part_at end ends items k (le_of_suc-le-suc l)

-- it begins at or before its end, which lies within
pub part_within : (from size : ℕ) (ends : List ℕ) (k : ℕ) → ascends from ends size ≡ true → k < length ends → (get_or (from ∷ ends) k 0 ≤ get_or ends k 0) × (get_or ends k 0 ≤ size)
part_within from size [] k a l = absurd (omega arith)
part_within from size (end ∷ ends) zero a l =
    let p = and_parts (leb from end) (ascends end ends size) a in
    (leb-true from end p.0, omega (arith, first_low end size ends p.1, last_low end size ends p.1))
part_within from size (end ∷ ends) (suc k) a l =
    part_within end size ends k (and_parts (leb from end) (ascends end ends size) a).1 (le_of_suc-le-suc l)

pub last_push : (from end : ℕ) (ends : List ℕ) → last_end from (ends ++ end ∷ []) ≡ end
last_push from end [] = refl
last_push from end (e ∷ es) = last_push e end es
