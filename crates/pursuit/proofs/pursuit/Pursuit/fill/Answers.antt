use Rattle.std.proofs.Common.{refl, length}
use Rattle.search.specs.Snapshots.{snapshot_fixes}
use Rattle.pursuit.specs.Answers.{height_at, query_on}
use Rattle.pursuit.proofs.SupportedMargins.{margin_table_from_rows, zeros_supported}
use Rattle.pursuit.proofs.pursuit.Pursuit.fill.Goals as goal

pub returns-then-not-is_each_supported-clause-serves : goal.returns-then-not-is_each_supported-clause-serves
returns-then-not-is_each_supported-clause-serves c served =
    let t = query_on c.args.snapshot.now c.args.ends in
    let height = height_at c.find_heights-self.result in
    let fixes = snapshot_fixes c.args.snapshot.now in
    let cleared = c.fill.ensures.after (λ y same. cc) in
    rw (c.n-self.ensures, cleared) (margin_table_from_rows t height _ fixes _ (c.if-not-every_leg_rises.ensures.0 refl) (zeros_supported fixes (length c.fill_margins.new.margins) t height _))

pub returns-then-not-is_each_supported-clause-exactly_where_legs_rise : goal.returns-then-not-is_each_supported-clause-exactly_where_legs_rise
returns-then-not-is_each_supported-clause-exactly_where_legs_rise c = (λ served. (height_at c.find_heights-self.result, c.if-not-every_leg_rises.ensures.0 refl), λ some. refl)

pub returns-else-not-is_each_supported-clause-serves : goal.returns-else-not-is_each_supported-clause-serves
returns-else-not-is_each_supported-clause-serves c served =
    let t = query_on c.args.snapshot.now c.args.ends in
    rw c.n-self.ensures (margin_table_from_rows t (height_at c.find_heights-self.result) _ (snapshot_fixes c.args.snapshot.now) c.fill_margins.new.margins (c.if-not-every_leg_rises.ensures.0 refl) (c.if-not-is_each_supported.ensures refl))

pub returns-else-not-is_each_supported-clause-exactly_where_legs_rise : goal.returns-else-not-is_each_supported-clause-exactly_where_legs_rise
returns-else-not-is_each_supported-clause-exactly_where_legs_rise c = (λ served. (height_at c.find_heights-self.result, c.if-not-every_leg_rises.ensures.0 refl), λ some. refl)
