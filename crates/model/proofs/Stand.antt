-- The laws of boxes.
use Rattle.std.proofs.Common.{◌≡◌, ℕ, ◌<◌, Bool, true, cond, eqb, ltb, ◌⊎◌, List, [], ◌∷◌, length, sym, refl, ◌∙◌, subst, inl, inr, ⊎_elim, arith}
use mathlib.Core.Path.{fun_ext}
use Rattle.std.proofs.lemmas.List.{get_or_past}
use Rattle.std.proofs.lemmas.Bool.{cases_Bool, both_ways, or_cases, or_left, or_right, eqb-true, eq-eqb, ltb-true, lt-ltb, false≢true, cond-true}
use Rattle.model.specs.Domains.{Has, only}
use Rattle.model.specs.Rows.{Valuation, Row, elem, on, no_row, nth_row, listed, MeetsAll, Same, Covers}
use Rattle.model.specs.Boxes.{Box, Supported, RowConsistent, Consistent}
use Rattle.model.specs.Facts.{facts_box}
use Rattle.model.specs.States.{value}
use Rattle.model.specs.Strikes.{Struck, Strikes, Emptied, Says}
use Rattle.model.specs.Laws.{LargestUnique, LargestFewer, FactsLargest, FactsFewer, StatesKept, AllowedKept, SinglesMeet, OrderFree, StrikeFixed, StrikePast, BoxLaws}
use Rattle.model.specs.declared.domain.Domain.TheVariants.{Empty}
use Rattle.model.specs.declared.strike.Strike.{Strike}
use Rattle.model.specs.declared.strike.Strike.TheVariants.{Unchanged, Changed, Dead}
use Rattle.model.proofs.Sets.{same_sets, set_decides, has-only, only_has}
use Rattle.model.proofs.Striking.{largest_unique}
use Rattle.model.proofs.Revise.{map_agrees, revise, revise_struck, largest_exists}
use Rattle.model.proofs.Cutting.{largest_from, telling, facts_lies}
use Rattle.model.proofs.Tuples.{tuples}
use Rattle.model.proofs.Numerals.{compare, tell}

unique : LargestUnique
unique rows top a b p q = fun_ext (largest_unique rows top a b p q)

fewer : LargestFewer
fewer rows small large a b p l m = m.greatest a l.consistent (λ f v h. p f v (l.within f v h))

facts : FactsLargest
facts rows fit held = (
  (let x = largest_exists rows fit (facts_box held) in (x.0, (largest_from rows held x.0).1 x.1)),
  (λ a b p q. unique rows (facts_box held) a b ((largest_from rows held a).0 p) ((largest_from rows held b).0 q)),
)

more : FactsFewer
more rows held others b d p l m = l.greatest d m.consistent (λ f v e. m.within f v (p f v e))

-- the box of one value for each flag below n
abbrev point : ℕ → Valuation → Box
point n s f = cond (ltb f n) (only (s f)) Empty

point_below : (n : ℕ) (s : Valuation) (f : ℕ) → f < n → point n s f ≡ only (s f)
point_below n s f l = cond-true (ltb f n) (only (s f)) Empty (lt-ltb f n l)

point_in : (n : ℕ) (s : Valuation) (f : ℕ) (w : Bool) → Has (point n s f) w → (f < n) × (w ≡ s f)
point_in n s f w h = ⊎_elim
    (λ e. (ltb-true f n e, has-only (s f) w (subst (λ x. Has (cond x (only (s f)) Empty) w) e h)))
    (λ e. absurd (false≢true (subst (λ x. Has (cond x (only (s f)) Empty) w) e h)))
    (cases_Bool (ltb f n))

states : StatesKept
states rows n top b s low meets lies l f lt =
    l.greatest (point n s)
    (λ k b' g o w h. record { values = s; here = sym (point_in n s g w h).1; meets = meets k b'; inside = λ i p. subst (λ d. Has d (s i)) (sym (point_below n s i (low k b' i p))) (only_has (s i)) })
    (λ g w h. let x = point_in n s g w h in subst (λ y. Has (top g) y) (sym x.1) (lies g x.0))
    f (s f) (subst (λ d. Has d (s f)) (sym (point_below n s f lt)) (only_has (s f)))

allowed : AllowedKept
allowed rows n held b s low a l =
    states rows n (facts_box held) b (value s) low a.met (facts_lies n held s a.size a.agrees) ((largest_from rows held b).0 l)

first : (fs : List ℕ) → 0 < length fs → (g : ℕ) × (elem g fs ≡ true)
first [] l = absurd (omega arith)
first (g ∷ gs) l = (g, or_left (eqb g g) (elem g gs) (eq-eqb g g refl))

singles : SinglesMeet
singles rows n b s fit low k spells j lt =
    let one = spells.only_value in
    let g = first (nth_row rows j).flags (fit j lt).some in
    let t = k j lt g.0 g.1 (value s g.0) (subst (λ d. Has d (value s g.0)) (sym (one g.0 (low j lt g.0 g.1))) (only_has (value s g.0))) in
    subst (λ xs. (nth_row rows j).allows xs ≡ true)
    (map_agrees t.values (value s) (nth_row rows j).flags (λ f o. has-only (value s f) (t.values f) (subst (λ d. Has d (t.values f)) (one f (low j lt f o)) (t.inside f o))))
    t.meets

-- the same row supports the same values
same_consistent : (r q : Row) → Same r q → (c : Box) → RowConsistent r c → RowConsistent q c
same_consistent r q e c k f o v h =
    let s : Supported r c f v = k f ((e.flags f).1 o) v h in
    record { values = s.values; here = s.here; meets = (e.met s.values).0 s.meets; inside = λ g p. s.inside g ((e.flags g).1 p) }

covered : (rows others : List Row) → Covers rows others → (c : Box) → Consistent rows c → Consistent others c
covered rows others p c k i l = let x = p i l in same_consistent (nth_row rows x.0) (nth_row others i) x.2 c (k x.0 x.1)

covered_met : (rows others : List Row) → Covers rows others → (s : Valuation) → MeetsAll rows s → MeetsAll others s
covered_met rows others p s m i l = let x = p i l in (x.2.met s).0 (m x.0 x.1)

orderless : OrderFree
orderless rows others p q = (
  (λ top b. (
    (λ l. record { consistent = covered rows others p b l.consistent; within = l.within; greatest = λ c k. l.greatest c (covered others rows q c k) }),
    (λ l. record { consistent = covered others rows q b l.consistent; within = l.within; greatest = λ c k. l.greatest c (covered rows others p c k) }),
  )),
  (λ s. (covered_met rows others p s, covered_met others rows q s)),
)

struck_same : (r : Row) (before a b : Box) → Struck r before a → Struck r before b → (f : ℕ) → a f ≡ b f
struck_same r before a b p q f = ⊎_elim
    (λ o. same_sets (a f) (b f) (λ v h. (q.kept f o v).1 ((p.kept f o v).0 h)) (λ v h. (p.kept f o v).1 ((q.kept f o v).0 h)))
    (λ o. p.rest f (both_ways (on r f) o) ∙ sym (q.rest f (both_ways (on r f) o)))
    (cases_Bool (on r f))

says_same : (r : Row) (before after : Box) (x y : Strike) → Says x r before after → Says y r before after → x ≡ y
says_same r before after Dead Dead p q = refl
says_same r before after Dead Changed p q = absurd (q.0 p)
says_same r before after Dead Unchanged p q = absurd (q.0 p)
says_same r before after Changed Dead p q = absurd (p.0 q)
says_same r before after Changed Changed p q = refl
says_same r before after Changed Unchanged p q = absurd (p.1.2 (q.1 p.1.0))
says_same r before after Unchanged Dead p q = absurd (p.0 q)
says_same r before after Unchanged Changed p q = absurd (q.1.2 (p.1 q.1.0))
says_same r before after Unchanged Unchanged p q = refl

-- some flag of a list has a property, or none
some_flag : (P : ℕ → Type 0) → ((f : ℕ) → P f ⊎ (P f → ⊥)) → (fs : List ℕ) → ((f : ℕ) × (elem f fs ≡ true) × P f) ⊎ ((f : ℕ) → elem f fs ≡ true → P f → ⊥)
some_flag P d [] = inr (λ f o p. false≢true o)
some_flag P d (x ∷ xs) = ⊎_elim
    (λ p. inl (x, or_left (eqb x x) (elem x xs) (eq-eqb x x refl), p))
    (λ n. ⊎_elim
    (λ s. inl (s.0, or_right (eqb s.0 x) (elem s.0 xs) s.1, s.2))
    (λ m. inr (λ f o p. ⊎_elim (λ e. n (subst P (eqb-true f x e) p)) (λ e. m f e p) (or_cases (eqb f x) (elem f xs) o)))
    (some_flag P d xs))
    (d x)

flip : {A : Type 0} → A ⊎ (A → ⊥) → (A → ⊥) ⊎ ((A → ⊥) → ⊥)
flip (inl a) = inr (λ n. n a)
flip (inr n) = inl n

sure : {A : Type 0} → A ⊎ (A → ⊥) → ((A → ⊥) → ⊥) → A
sure (inl a) n = a
sure (inr m) n = absurd (n m)

-- one of the three answers fits
answered : (r : Row) (before after : Box) → Struck r before after → (x : Strike) × Says x r before after
answered r before after s = ⊎_elim
    (λ e. (Dead, e))
    (λ n.
    let alive : Emptied r after → ⊥ = λ e. n e.0 e.1 e.2 in
    ⊎_elim
    (λ c. (Changed, (alive, c)))
    (λ m. (Unchanged, (alive, λ f. ⊎_elim (λ o. sure (set_decides (after f) (before f)) (m f o)) (λ o. s.rest f (both_ways (on r f) o)) (cases_Bool (on r f)))))
    (some_flag (λ f. after f ≡ before f → ⊥) (λ f. flip (set_decides (after f) (before f))) r.flags))
    (some_flag (λ f. after f ≡ Empty) (λ f. set_decides (after f) Empty) r.flags)

strikes : StrikeFixed
strikes r before = (
  (λ a b x y p q.
      let e : a ≡ b = fun_ext (struck_same r before a b p.left q.left) in
      (e, says_same r before b x y (subst (λ z. Says x r before z) e p.says) q.says)),
  let x = answered r before (revise r before) (revise_struck r before) in
      (revise r before, x.0, record { left = revise_struck r before; says = x.1 }),
)

past_none : (before after : Box) (x : Strike) → Strikes no_row before after x → (x ≡ Unchanged) × (after ≡ before)
past_none before after Dead s = absurd (false≢true s.says.1)
past_none before after Changed s = absurd (false≢true s.says.1.1)
past_none before after Unchanged s = (refl, fun_ext s.says.1)

past : StrikePast
past rows k before after x l s = past_none before after x (subst (λ r. Strikes r before after x) (get_or_past (listed rows) k no_row l) s)

pub box_laws : BoxLaws
box_laws = record { exists = largest_exists; unique = unique; fewer = fewer; from = largest_from; facts = facts; more = more; telling = telling; states = states; allowed = allowed; singles = singles; orderless = orderless; strikes = strikes; past = past; tuples = tuples; compare = compare; tell = tell }
