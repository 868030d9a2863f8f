use Rattle.std.proofs.Common.{ap, ◌∙◌, arith, refl}
use Rattle.chart.specs.Tables.{table_legs}
use Rattle.plan.specs.Ledgers.{ledger_after}
use Rattle.plan.specs.Plans.{ledger_of}
use Rattle.library_example.specs.Answers.{IsAnswerAfter}
use Rattle.library_example.proofs.RouteAfter.{passed_on, fault_of, file_of_plan, filed_plan, amendment_refused, routed_after}
use Rattle.library_example.proofs.route_after.Goals as goal

pub returns-in_err-counts : goal.returns-in_err-counts
returns-in_err-counts c =
    let h = c.in_err-counts.ensures.reads_the_chart_or_tells_the_fault in
    passed_on (λ r. IsAnswerAfter c.args.file.now c.args.amendment c.args.memory.now r c.args.memory.now) c.from_residual.result c.from_residual.ensures.1 (fault_of h.0 c.new-reader.ensures.same_file (omega arith), refl)

pub returns-in_err-amend : goal.returns-in_err-amend
returns-in_err-amend c =
    let table = c.take_legs.new.table in
    let file = file_of_plan c.args.file.now _ c.read_file.new.self c.in_ok-counts.counts _ c.read_file.new.memory c.new-table.result c.take_legs.new.table c.new.result c.file-plan.result
    c.in_ok-counts.ensures.reads_the_chart_or_tells_the_fault.0 c.new-reader.ensures.same_file c.read_file.ensures.same_file c.new-table.ensures.keeps_rows
    _ c.take_legs.result c.take_legs.ensures.takes_the_legs_of_the_file c.take_legs.ensures.takes_exactly_its_rows in
    let filed = filed_plan c.args.file.now _ c.read_file.new.self c.in_ok-counts.counts _ c.read_file.new.memory c.new-table.result c.take_legs.new.table c.new.result c.file-plan.result
    c.in_ok-counts.ensures.reads_the_chart_or_tells_the_fault.0 c.new-reader.ensures.same_file c.read_file.ensures.same_file c.new-table.ensures.keeps_rows
    c.new.ensures.chart c.new.ensures.from_the_first c.new.ensures.to_the_last c.file-plan.ensures.ledger in
    let refused = amendment_refused c.args.file.now table.fixes c.args.amendment (table_legs table) (ledger_of table_legs c.file-plan.result) file filed _ c.in_err-amend.ensures.answer in
    passed_on (λ r. IsAnswerAfter c.args.file.now c.args.amendment c.args.memory.now r c.args.memory.now) c.from_residual-in_err-amend.result c.from_residual-in_err-amend.ensures.1 (refused, refl)

pub returns-in_err-route : goal.returns-in_err-route
returns-in_err-route c =
    let table = c.take_legs.new.table in
    let file = file_of_plan c.args.file.now _ c.read_file.new.self c.in_ok-counts.counts _ c.read_file.new.memory c.new-table.result c.take_legs.new.table c.new.result c.file-plan.result
    c.in_ok-counts.ensures.reads_the_chart_or_tells_the_fault.0 c.new-reader.ensures.same_file c.read_file.ensures.same_file c.new-table.ensures.keeps_rows
    _ c.take_legs.result c.take_legs.ensures.takes_the_legs_of_the_file c.take_legs.ensures.takes_exactly_its_rows in
    let filed = filed_plan c.args.file.now _ c.read_file.new.self c.in_ok-counts.counts _ c.read_file.new.memory c.new-table.result c.take_legs.new.table c.new.result c.file-plan.result
    c.in_ok-counts.ensures.reads_the_chart_or_tells_the_fault.0 c.new-reader.ensures.same_file c.read_file.ensures.same_file c.new-table.ensures.keeps_rows
    c.new.ensures.chart c.new.ensures.from_the_first c.new.ensures.to_the_last c.file-plan.ensures.ledger in
    let routed = routed_after c.args.file.now table.fixes c.args.amendment (table_legs table) (ledger_of table_legs c.file-plan.result) file filed
    c.in_ok-amend.field-0 c.amend.new.self.chart.fixes (ledger_of table_legs c.amend.new.self) c.args.memory.now _ c.route.new.memory
    c.in_ok-amend.ensures.answer
    (c.amend.ensures.ledger ∙ ap (λ t. ledger_after (table_legs t) (ledger_of table_legs c.file-plan.result) c.args.amendment) (c.file-plan.ensures.chart ∙ c.new.ensures.chart))
    (ap (λ t. t.fixes) (c.amend.ensures.chart ∙ c.file-plan.ensures.chart ∙ c.new.ensures.chart))
    c.in_err-route.ensures in
    passed_on (λ r. IsAnswerAfter c.args.file.now c.args.amendment c.args.memory.now r c.route.new.memory) c.from_residual-in_err-route.result c.from_residual-in_err-route.ensures.1 routed

pub returns : goal.returns
returns c =
    let table = c.take_legs.new.table in
    let file = file_of_plan c.args.file.now _ c.read_file.new.self c.in_ok-counts.counts _ c.read_file.new.memory c.new-table.result c.take_legs.new.table c.new.result c.file-plan.result
    c.in_ok-counts.ensures.reads_the_chart_or_tells_the_fault.0 c.new-reader.ensures.same_file c.read_file.ensures.same_file c.new-table.ensures.keeps_rows
    _ c.take_legs.result c.take_legs.ensures.takes_the_legs_of_the_file c.take_legs.ensures.takes_exactly_its_rows in
    let filed = filed_plan c.args.file.now _ c.read_file.new.self c.in_ok-counts.counts _ c.read_file.new.memory c.new-table.result c.take_legs.new.table c.new.result c.file-plan.result
    c.in_ok-counts.ensures.reads_the_chart_or_tells_the_fault.0 c.new-reader.ensures.same_file c.read_file.ensures.same_file c.new-table.ensures.keeps_rows
    c.new.ensures.chart c.new.ensures.from_the_first c.new.ensures.to_the_last c.file-plan.ensures.ledger in
    routed_after c.args.file.now table.fixes c.args.amendment (table_legs table) (ledger_of table_legs c.file-plan.result) file filed
    c.in_ok-amend.field-0 c.amend.new.self.chart.fixes (ledger_of table_legs c.amend.new.self) c.args.memory.now _ c.route.new.memory
    c.in_ok-amend.ensures.answer
    (c.amend.ensures.ledger ∙ ap (λ t. ledger_after (table_legs t) (ledger_of table_legs c.file-plan.result) c.args.amendment) (c.file-plan.ensures.chart ∙ c.new.ensures.chart))
    (ap (λ t. t.fixes) (c.amend.ensures.chart ∙ c.file-plan.ensures.chart ∙ c.new.ensures.chart))
    c.in_ok-route.ensures
