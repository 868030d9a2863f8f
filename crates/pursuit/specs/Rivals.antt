-- Routes and rivals as paths of legs. A rival is a list of legs against which the regret of a route is measured: today the
-- rivals are the routes. What is said of their legs names `IsRivalLeg`, and proofs of them name `IsRival`, so that rivals may come
-- to be more than the routes: what is not closed serves a rival, and what is open serves a route.
use Rattle.std.specs.Prelude.{◌≡◌, ℕ, ◌<◌, List, [], ◌∷◌, length, ◌≢◌}
use Rattle.chart.specs.declared.leg.Leg.{Leg}
use Rattle.chart.specs.declared.row.Standing.TheVariants.{Open, Closed}
use Rattle.chart.specs.Legs.{leg_at}
use Rattle.chart.specs.Regret.{Query, IsRoute}

-- the leg may be on a route from s to t: no route enters its departure or leaves its destination
pub record ServesRoute (s t : ℕ) (leg : Leg) : Type 0 where
  pub is_open : leg.standing ≡ Open
  pub enters : leg.to ≢ s
  pub leaves : leg.from ≢ t

-- the leg may be on a rival from s to t
pub record ServesRival (s t : ℕ) (leg : Leg) : Type 0 where
  pub not_closed : leg.standing ≢ Closed
  pub enters : leg.to ≢ s
  pub leaves : leg.from ≢ t

-- k is the number of a leg that serves the query as S says
pub record IsLegFor (S : ℕ → ℕ → Leg → Type 0) (t : Query) (k : ℕ) : Type 0 where
  pub there : k < length t.legs
  pub serves : S t.source t.destination (leg_at t.legs k)

abbrev pub IsRouteLeg : Query → ℕ → Type 0
IsRouteLeg = IsLegFor ServesRoute

abbrev pub IsRivalLeg : Query → ℕ → Type 0
IsRivalLeg = IsLegFor ServesRival

-- the legs ks are a rival to the routes of the query. It is no abbreviation, so that a proof that rests on it says so.
unfoldable pub IsRival : Query → List ℕ → Type 0
IsRival = IsRoute

-- the legs ks, one after the other and each of them with P, lead from the fix a to the fix z
abbrev pub IsPath : (ℕ → Type 0) → List Leg → ℕ → List ℕ → ℕ → Type 0
IsPath P legs a [] z = a ≡ z
IsPath P legs a (k ∷ ks) z = P k × ((leg_at legs k).from ≡ a) × IsPath P legs (leg_at legs k).to ks z
