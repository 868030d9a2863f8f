-- The number of each refusal, and what it says in words.
use Rattle.std.specs.Prelude.{ℕ, List, codes}
use Rattle.chart.specs.declared.refusals.RowRefusal.TheVariants.{BadTimes as BadRowTimes}
use Rattle.chart.specs.Refusals.{row_words}
use Rattle.floor.specs.declared.refusals.FloorRefusal.TheVariants.{NoRoute as FloorNoRoute}
use Rattle.floor.specs.Answers.{floor_words}
use Rattle.plan.specs.declared.refusals.AmendRefusal.{AmendRefusal}
use Rattle.plan.specs.declared.refusals.AmendRefusal.TheVariants.{NoSuchLeg, BadTimes, LastRevision, OtherRevision, NotAmended, NoPlace}
use Rattle.plan.specs.declared.refusals.EndsRefusal.{EndsRefusal}
use Rattle.plan.specs.declared.refusals.EndsRefusal.TheVariants.{NoSuchFix, SameFix}
use Rattle.plan.specs.declared.refusals.BestRefusal.{BestRefusal}
use Rattle.plan.specs.declared.refusals.BestRefusal.TheVariants.{NoRoute}

abbrev pub amend_number : AmendRefusal → ℕ
amend_number NoSuchLeg = 13
amend_number BadTimes = 8
amend_number LastRevision = 22
amend_number OtherRevision = 21
amend_number NotAmended = 24
amend_number NoPlace = 23

abbrev pub amend_words : AmendRefusal → List ℕ
amend_words NoSuchLeg = codes "no such leg"
amend_words BadTimes = row_words BadRowTimes
amend_words LastRevision = codes "the plan is at its last revision"
amend_words OtherRevision = codes "the plan is at another revision"
amend_words NotAmended = codes "the leg is not amended"
amend_words NoPlace = codes "as many legs as can be stand amended"

abbrev pub ends_number : EndsRefusal → ℕ
ends_number NoSuchFix = 11
ends_number SameFix = 12

abbrev pub ends_words : EndsRefusal → List ℕ
ends_words NoSuchFix = codes "no such fix"
ends_words SameFix = codes "departure and destination are the same"

abbrev pub best_number : BestRefusal → ℕ
best_number NoRoute = 25

abbrev pub best_words : BestRefusal → List ℕ
best_words NoRoute = floor_words FloorNoRoute
