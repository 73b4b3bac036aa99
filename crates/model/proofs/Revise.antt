-- A strike as a function, and the largest consistent box by repeating it: so that one exists.
use Rattle.std.proofs.Common.{◌≡◌, ℕ, zero, suc, ◌<◌, ◌≤◌, Bool, true, false, cond, ◌&&◌, ◌||◌, eqb, List, [], ◌∷◌, map, length, sym, refl, ap, ◌∙◌, subst, ap₂, ⊎_elim, arith}
use mathlib.Core.Path.{fun_ext}
use mathlib.Core.Bool.{beq}
use Rattle.std.proofs.lemmas.Bool.{cases_Bool, cases_lt, or_cases, or_left, or_right, and_parts, and_from, eqb-true, eq-eqb, false≢true}
use Rattle.model.specs.Domains.{has, Has, set_of}
use Rattle.model.specs.Rows.{Valuation, Row, elem, on, On, nth_row, Proper, AllProper}
use Rattle.model.specs.Boxes.{Box, Supported, RowConsistent, Consistent, ◌⊆◌, Largest}
use Rattle.model.specs.Strikes.{Struck}
use Rattle.model.proofs.Sets.{same_sets, has-set_of, differ}
use Rattle.model.proofs.Striking.{consistent_same, strike_shrinks, strike_keeps, strike_settles}
use Rattle.model.proofs.Sizes.{size, size-<}

abbrev pub put : Valuation → ℕ → Bool → Valuation
put s f v g = cond (eqb g f) v (s g)

-- whether some values that differ from s only at these flags passes
abbrev pub some_values : List ℕ → Valuation → (Valuation → Bool) → Bool
some_values [] s P = P s
some_values (f ∷ fs) s P = some_values fs (put s f false) P || some_values fs (put s f true) P

some_found : (fs : List ℕ) (s : Valuation) (P : Valuation → Bool) → some_values fs s P ≡ true → (t : Valuation) × (P t ≡ true)
some_found [] s P h = (s, h)
some_found (f ∷ fs) s P h = ⊎_elim (some_found fs (put s f false) P) (some_found fs (put s f true) P) (or_cases _ _ h)

-- values that agree with s off (f ∷ fs) agree off fs with s after their own value is put at f
put_agrees : (f : ℕ) (fs : List ℕ) (s t : Valuation) → ((g : ℕ) → elem g (f ∷ fs) ≡ false → t g ≡ s g) → (g : ℕ) → elem g fs ≡ false → t g ≡ put s f (t f) g
put_agrees f fs s t a g h = ⊎_elim
    (λ e. ap t (eqb-true g f e) ∙ sym (ap (λ b. cond b (t f) (s g)) e))
    (λ e. a g (ap (λ b. b || elem g fs) e ∙ h) ∙ sym (ap (λ b. cond b (t f) (s g)) e))
    (cases_Bool (eqb g f))

some_there : (fs : List ℕ) (s t : Valuation) (P : Valuation → Bool) → ((g : ℕ) → elem g fs ≡ false → t g ≡ s g) → P t ≡ true → some_values fs s P ≡ true
some_there [] s t P a h = subst (λ x. P x ≡ true) (fun_ext (λ g. a g refl)) h
some_there (f ∷ fs) s t P a h =
    let k : some_values fs (put s f (t f)) P ≡ true = some_there fs (put s f (t f)) t P (put_agrees f fs s t a) h in
    ⊎_elim
    (λ e. or_right (some_values fs (put s f false) P) _ (subst (λ v. some_values fs (put s f v) P ≡ true) e k))
    (λ e. or_left _ (some_values fs (put s f true) P) (subst (λ v. some_values fs (put s f v) P ≡ true) e k))
    (cases_Bool (t f))

abbrev pub inside : Box → Valuation → List ℕ → Bool
inside b t [] = true
inside b t (g ∷ gs) = has (b g) (t g) && inside b t gs

inside_each : (b : Box) (t : Valuation) (fs : List ℕ) → inside b t fs ≡ true → (g : ℕ) → elem g fs ≡ true → Has (b g) (t g)
inside_each b t [] h g o = absurd (false≢true o)
inside_each b t (f ∷ fs) h g o =
    let p = and_parts (has (b f) (t f)) (inside b t fs) h in
    ⊎_elim
    (λ e. subst (λ x. Has (b x) (t x)) (sym (eqb-true g f e)) p.0)
    (λ e. inside_each b t fs p.1 g e)
    (or_cases (eqb g f) (elem g fs) o)

each_inside : (b : Box) (t : Valuation) (fs : List ℕ) → ((g : ℕ) → elem g fs ≡ true → Has (b g) (t g)) → inside b t fs ≡ true
each_inside b t [] h = refl
each_inside b t (f ∷ fs) h =
    and_from (has (b f) (t f)) (inside b t fs) (h f (or_left (eqb f f) (elem f fs) (eq-eqb f f refl))) (each_inside b t fs (λ g o. h g (or_right (eqb g f) (elem g fs) o)))

pub map_agrees : (s t : Valuation) (fs : List ℕ) → ((g : ℕ) → elem g fs ≡ true → s g ≡ t g) → map s fs ≡ map t fs
map_agrees s t [] h = refl
map_agrees s t (f ∷ fs) h =
    ap₂ (λ x xs. x ∷ xs) (h f (or_left (eqb f f) (elem f fs) (eq-eqb f f refl))) (map_agrees s t fs (λ g o. h g (or_right (eqb g f) (elem g fs) o)))

pub beq_true : (x y : Bool) → beq x y ≡ true → x ≡ y
beq_true true true h = refl
beq_true true false h = absurd (false≢true h)
beq_true false true h = absurd (false≢true h)
beq_true false false h = refl

pub beq_refl : (x : Bool) → beq x x ≡ true
beq_refl true = refl
beq_refl false = refl

abbrev pub passes : Row → Box → ℕ → Bool → Valuation → Bool
passes r b f v t = r.allows (map t r.flags) && (inside b t r.flags && beq (t f) v)

-- whether a value has support
abbrev pub supports : Row → Box → ℕ → Bool → Bool
supports r b f v = some_values r.flags (λ _. false) (passes r b f v)

supports_sound : (r : Row) (b : Box) (f : ℕ) (v : Bool) → supports r b f v ≡ true → Supported r b f v
supports_sound r b f v h =
    let x = some_found r.flags (λ _. false) (passes r b f v) h in
    let p = and_parts (r.allows (map x.0 r.flags)) (inside b x.0 r.flags && beq (x.0 f) v) x.1 in
    let q = and_parts (inside b x.0 r.flags) (beq (x.0 f) v) p.1 in
    record { values = x.0; here = beq_true (x.0 f) v q.1; meets = p.0; inside = inside_each b x.0 r.flags q.0 }

-- values cut down to the flags of a row
abbrev cut : Row → Valuation → Valuation
cut r s g = on r g && s g

cut_on : (r : Row) (s : Valuation) (g : ℕ) → On r g → cut r s g ≡ s g
cut_on r s g o = ap (λ x. x && s g) o

supports_complete : (r : Row) (b : Box) (f : ℕ) (v : Bool) → On r f → Supported r b f v → supports r b f v ≡ true
supports_complete r b f v o s =
    some_there r.flags (λ _. false) (cut r s.values) (passes r b f v) (λ g e. ap (λ x. x && s.values g) e)
    (and_from (r.allows (map (cut r s.values) r.flags)) _
    (ap r.allows (map_agrees (cut r s.values) s.values r.flags (cut_on r s.values)) ∙ s.meets)
    (and_from (inside b (cut r s.values) r.flags) _
    (each_inside b (cut r s.values) r.flags (λ g p. subst (λ x. Has (b g) x) (sym (cut_on r s.values g p)) (s.inside g p)))
    (subst (λ x. beq x v ≡ true) (sym (cut_on r s.values f o ∙ s.here)) (beq_refl v))))

abbrev pub revise : Row → Box → Box
revise r b f = cond (on r f) (set_of (supports r b f false) (supports r b f true)) (b f)

has_revise : (r : Row) (b : Box) (f : ℕ) → On r f → (v : Bool) → has (revise r b f) v ≡ supports r b f v
has_revise r b f o v =
    ap (λ x. has (cond x (set_of (supports r b f false) (supports r b f true)) (b f)) v) o ∙ (has-set_of (supports r b f false) (supports r b f true) v ∙ pick v)
  where
    pick : (w : Bool) → cond w (supports r b f true) (supports r b f false) ≡ supports r b f w
    pick true = refl
    pick false = refl

pub revise_struck : (r : Row) (b : Box) → Struck r b (revise r b)
revise_struck r b =
    record {
      kept = λ f o v. ((λ h. supports_sound r b f v (sym (has_revise r b f o v) ∙ h)), (λ s. has_revise r b f o v ∙ supports_complete r b f v o s));
      rest = λ f n. ⊎_elim (λ o. absurd (n o)) (λ o. ap (λ x. cond x (set_of (supports r b f false) (supports r b f true)) (b f)) o) (cases_Bool (on r f));
    }

-- every row once, in order
abbrev pub sweep : List Row → Box → Box
sweep [] b = b
sweep (r ∷ rs) b = sweep rs (revise r b)

abbrev pub settle : ℕ → List Row → Box → Box
settle zero rows b = b
settle (suc n) rows b = settle n rows (sweep rows b)

sweep_down : (rows : List Row) (b : Box) → sweep rows b ⊆ b
sweep_down [] b f v h = h
sweep_down (r ∷ rs) b f v h = strike_shrinks r b (revise r b) (revise_struck r b) f v (sweep_down rs (revise r b) f v h)

tail : (P : Row → Type 0) (r : Row) (rs : List Row) → ((k : ℕ) → k < length (r ∷ rs) → P (nth_row (r ∷ rs) k)) → (k : ℕ) → k < length rs → P (nth_row rs k)
tail P r rs p k l = p (suc k) (omega arith)

head : (P : Row → Type 0) (r : Row) (rs : List Row) → ((k : ℕ) → k < length (r ∷ rs) → P (nth_row (r ∷ rs) k)) → P r
head P r rs p = p 0 (omega arith)

sweep_up : (rows : List Row) (b c : Box) → Consistent rows c → c ⊆ b → c ⊆ sweep rows b
sweep_up [] b c k p = p
sweep_up (r ∷ rs) b c k p =
    sweep_up rs (revise r b) c (tail (λ q. RowConsistent q c) r rs k) (strike_keeps r b (revise r b) (revise_struck r b) c (head (λ q. RowConsistent q c) r rs k) p)

-- a row has no flag past 256, so a sweep leaves the sets there
sweep_past : (rows : List Row) → AllProper rows → (b : Box) (f : ℕ) → 256 ≤ f → sweep rows b f ≡ b f
sweep_past [] fit b f l = refl
sweep_past (r ∷ rs) fit b f l =
    sweep_past rs (tail Proper r rs fit) (revise r b) f l ∙ (revise_struck r b).rest f (λ o. let h : f < 256 = (head Proper r rs fit).below f o in omega arith)

-- where a sweep removes nothing, the box is consistent
sweep_fixed : (rows : List Row) (b : Box) → b ⊆ sweep rows b → Consistent rows b
sweep_fixed [] b p = λ k l. absurd (omega arith)
sweep_fixed (r ∷ rs) b p =
    let same : (f : ℕ) → revise r b f ≡ b f = λ f. same_sets (revise r b f) (b f) (strike_shrinks r b (revise r b) (revise_struck r b) f) (λ v h. sweep_down rs (revise r b) f v (p f v h)) in
    each
    (consistent_same r (revise r b) b (λ f _. sym (same f)) (strike_settles r b (revise r b) (revise_struck r b)))
    (sweep_fixed rs b (subst (λ x. b ⊆ sweep rs x) (fun_ext same) p))
  where
    each : RowConsistent r b → Consistent rs b → Consistent (r ∷ rs) b
    each x y zero l = x
    each x y (suc k) l = y k (omega arith)

settle_still : (n : ℕ) (rows : List Row) (b : Box) → sweep rows b ≡ b → settle n rows b ≡ b
settle_still zero rows b e = refl
settle_still (suc n) rows b e = ap (λ x. settle n rows x) e ∙ settle_still n rows b e

settle_down : (n : ℕ) (rows : List Row) (b : Box) → settle n rows b ⊆ b
settle_down zero rows b f v h = h
settle_down (suc n) rows b f v h = sweep_down rows b f v (settle_down n rows (sweep rows b) f v h)

settle_up : (n : ℕ) (rows : List Row) (b c : Box) → Consistent rows c → c ⊆ b → c ⊆ settle n rows b
settle_up zero rows b c k p = p
settle_up (suc n) rows b c k p = settle_up n rows (sweep rows b) c k (sweep_up rows b c k p)

-- where a sweep changes no set below 256 it changes none, and the box is consistent
settle_same : (n : ℕ) (rows : List Row) → AllProper rows → (b : Box) → ((f : ℕ) → f < 256 → sweep rows b f ≡ b f) → Consistent rows (settle n rows b)
settle_same n rows fit b h =
    let same : sweep rows b ≡ b = fun_ext (λ f. ⊎_elim (h f) (sweep_past rows fit b f) (cases_lt f 256)) in
    subst (Consistent rows) (sym (settle_still n rows b same)) (sweep_fixed rows b (λ f v x. subst (λ s. Has (s f) v) (sym same) x))

sweep_less : (rows : List Row) (b : Box) → ((f : ℕ) × (f < 256) × (sweep rows b f ≡ b f → ⊥)) → size (sweep rows b) < size b
sweep_less rows b d = size-< (sweep rows b) b (sweep_down rows b) d.0 d.1 d.2

-- as many sweeps as the box has values are enough
settle_consistent : (n : ℕ) (rows : List Row) → AllProper rows → (b : Box) → size b ≤ n → Consistent rows (settle n rows b)
settle_consistent zero rows fit b l = ⊎_elim (settle_same 0 rows fit b) (λ d. absurd (omega (arith, sweep_less rows b d))) (differ (sweep rows b) b 256)
settle_consistent (suc n) rows fit b l = ⊎_elim
    (settle_same (suc n) rows fit b)
    (λ d. settle_consistent n rows fit (sweep rows b) (omega (arith, sweep_less rows b d)))
    (differ (sweep rows b) b 256)

pub settle_largest : (n : ℕ) (rows : List Row) → AllProper rows → (top : Box) → size top ≤ n → Largest rows top (settle n rows top)
settle_largest n rows fit top l =
    record { consistent = settle_consistent n rows fit top l; within = settle_down n rows top; greatest = settle_up n rows top }

-- a largest consistent box exists
pub largest_exists : (rows : List Row) → AllProper rows → (top : Box) → (b : Box) × Largest rows top b
largest_exists rows fit top = (settle (size top) rows top, settle_largest (size top) rows fit top (omega arith))
