-- What rests on the rivals being the routes. `IsRival` is opened here and nowhere else: where rivals come to be more than the
-- routes, this file alone changes of the proofs of this crate.
use Rattle.std.proofs.Common.{◌≡◌, ℕ, ◌+◌, ◌≤◌, ◌≢◌, List, [], ◌∷◌, refl}
use Rattle.chart.specs.declared.row.Standing.{Standing}
use Rattle.chart.specs.declared.row.Standing.TheVariants.{Open, Closed}
use Rattle.chart.specs.Legs.{leg_at}
use Rattle.chart.specs.Routes.{Leads, IsChain}
use Rattle.chart.specs.Regret.{Query, IsRoute, time, IsChoice, HasRegret}
use Rattle.regret.proofs.RegretFromBest.{chain_is_route}
use Rattle.regret.proofs.EveryRouteHasRegret.{regret_is_never_exceeded}
use Rattle.pursuit.specs.Rivals.{IsRivalLeg, IsRival, IsPath}
use Rattle.pursuit.specs.Pursuits.{EveryLegRises}
use Rattle.pursuit.proofs.Paths.{path_once}

not_closed_open : (s : Standing) → s ≢ Closed → s ≡ Open
not_closed_open Open n = refl
not_closed_open Closed n = absurd (n refl)

path_leads : (t : Query) (ks : List ℕ) (a z : ℕ) → IsPath (IsRivalLeg t) t.legs a ks z → Leads t.legs a ks z
path_leads t [] a z e = e
path_leads t (k ∷ ks) a z h =
    (record { there = h.0.there; is_open = not_closed_open (leg_at t.legs k).standing h.0.serves.not_closed; from = h.1 }, path_leads t ks (leg_at t.legs k).to z h.2)

-- a path of rivals' legs that rise, from the departure to the destination, is a rival, if there is a route
pub path_is_rival : (t : Query) (height : ℕ → ℕ) → EveryLegRises t height → (r : List ℕ) → IsPath (IsRivalLeg t) t.legs t.source r t.destination → (p : List ℕ) → IsRoute t p → IsRival t r
unfolding IsRival
path_is_rival t height rises r path p is_route =
    let chain : IsChain t.legs t.source r t.destination = record { leads = path_leads t r t.source t.destination path; once = path_once (IsRivalLeg t) t.legs height rises r t.source t.destination path } in
    chain_is_route t.legs t.source t.destination t.destination r chain refl p is_route

-- in no choice does a route take longer than a rival by more than its regret
pub regret_covers_rival : (t : Query) (p : List ℕ) (y : ℕ) → HasRegret t p y → (c : ℕ → ℕ) → IsChoice t.legs c → (r : List ℕ) → IsRival t r → time c p ≤ time c r + y
unfolding IsRival
regret_covers_rival = regret_is_never_exceeded
