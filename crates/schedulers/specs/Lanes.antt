-- Two lanes, each with a scheduler: the first for the numbers below a boundary, the second for the rest.
use Rattle.std.specs.Prelude.{◌≡◌, ℕ, zero, suc, ◌<◌, ◌≤◌, Bool, true, false, cond, not, ◌&&◌, ◌||◌, Some, None, Option, nat_lt}
use Rattle.model.specs.Waiting.{Wakes, NoneWaits}
pub use Rattle.schedulers.specs.declared.lanes.Lane.{Lane}
pub use Rattle.schedulers.specs.declared.lanes.Lane.TheVariants.{First, Second}
use Rattle.schedulers.specs.declared.lanes.Lanes.{Lanes}

-- whether a number belongs in a lane
abbrev pub belongs : ℕ → Lane → ℕ → Bool
belongs boundary First k = nat_lt k boundary
belongs boundary Second k = not (nat_lt k boundary)

-- of the numbers that sit in a scheduler, those of a lane
abbrev pub among : (ℕ → Bool) → (ℕ → Bool) → ℕ → Bool
among lane sits k = lane k && sits k

-- of the numbers that sit in a lane's scheduler, those that belong there
abbrev pub in_lane : ℕ → Lane → (ℕ → Bool) → ℕ → Bool
in_lane boundary lane sits k = belongs boundary lane k && sits k

-- the answers of a test tell which numbers are of a lane
abbrev pub Tells : (ℕ → Bool → Type 0) → (ℕ → Bool) → Type 0
Tells answers lane = (k : ℕ) (answer : Bool) → answers k answer → answer ≡ lane k

-- whether a number below n waits
unfoldable pub some_below : ℕ → (ℕ → Bool) → Bool
some_below zero waits = false
some_below (suc n) waits = waits n || some_below n waits

-- the lane that is served: the first where a number below the boundary waits, else the second where any waits
abbrev pub lane_served : ℕ → (ℕ → Bool) → Option Lane
lane_served boundary waits = cond (some_below boundary waits) (Some First) (cond (some_below 1024 waits) (Some Second) None)

-- the lane of the number answered
abbrev pub lane_answered : ℕ → Option ℕ → Option Lane
lane_answered boundary None = None
lane_answered boundary (Some k) = Some (cond (nat_lt k boundary) First Second)

-- the rest is over what sits in the one scheduler and in the other
module _ {A B : Type 0} (first : A → ℕ → Bool) (second : B → ℕ → Bool) where
  -- what waits in the lanes; a number that sits in the wrong lane does not count
  abbrev pub in_lanes : Lanes A B → ℕ → Bool
  in_lanes lanes k = cond (nat_lt k lanes.boundary) (first lanes.first k) (second lanes.second k)

  -- a wake goes to the scheduler of the number's lane, and the other one stays as it was
  pub record LaneWakes (row : ℕ) (before after : Lanes A B) (answer : Bool) : Type 0 where
    pub boundary : after.boundary ≡ before.boundary
    pub low : row < before.boundary → Wakes row before.first after.first (first before.first) (first after.first) answer × (after.second ≡ before.second)
    pub high : before.boundary ≤ row → Wakes row before.second after.second (second before.second) (second after.second) answer × (after.first ≡ before.first)

  -- a take serves the first lane where a number waits there, and then the second scheduler stays as it was
  pub record LaneTakes (before after : Lanes A B) (answer : Option ℕ) : Type 0 where
    pub boundary : after.boundary ≡ before.boundary
    pub lane : lane_answered before.boundary answer ≡ lane_served before.boundary (in_lanes before)
    pub second_stays : some_below before.boundary (in_lanes before) ≡ true → after.second ≡ before.second

  -- both schedulers are cleared
  pub record LaneClears (before after : Lanes A B) : Type 0 where
    pub boundary : after.boundary ≡ before.boundary
    pub first_none : NoneWaits (first after.first)
    pub second_none : NoneWaits (second after.second)
