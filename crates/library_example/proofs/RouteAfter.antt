-- The route of an amended plan on a file's chart, from what the calls on the way to it promise.
use Rattle.std.proofs.Common.{rules, ◌≡◌, ℕ, ◌+◌, ◌-◌, true, List, [], ◌∷◌, ◌++◌, length, map, take, drop, is_ok, Ok, Err, Result, MatchResult, ap, ◌∙◌, sym, subst, arith}
use Rattle.std.specs.Result.{IsErrAnd}
use Rattle.std.proofs.Math.Seq.{take-append_seam}
use Rattle.std.proofs.lemmas.Result.{err_from_is_err_and}
use Rattle.chart.specs.Limits.{max_legs}
use Rattle.chart.specs.Outcomes.{values, refused}
use Rattle.chart.specs.declared.Ends.{Ends}
use Rattle.chart.specs.declared.leg.Leg.{Leg}
use Rattle.chart_format.specs.declared.faults.Report.{Report}
use Rattle.chart_format.specs.Faults.{IsFaultOf}
use Rattle.least.specs.declared.routes.FoundRoute.{FoundRoute}
use Rattle.plan.specs.Refusals.{amend_number}
use Rattle.plan.specs.Ledgers.{Ledger, at_filing}
use Rattle.library_example.specs.declared.NoAnswer.{NoAnswer}
use Rattle.chart.specs.declared.row.Row.{Row}
use Rattle.chart.specs.declared.table.Table.{Table}
use Rattle.chart.specs.declared.refusals.TableRefusal.{TableRefusal}
use Rattle.chart.specs.Rows.{row_of_leg}
use Rattle.chart.specs.Tables.{table_legs}
use Rattle.chart_format.specs.Format.{Means}
use Rattle.least.specs.declared.refusals.RouteRefusal.{RouteRefusal}
use Rattle.least.specs.Answers.{route_outcome, IsRouteOutcome}
use Rattle.plan.specs.declared.amendment.Amendment.{Amendment}
use Rattle.plan.specs.declared.draft.Draft.{Draft}
use Rattle.plan.specs.declared.filed.Filed.{Filed}
use Rattle.plan.specs.declared.refusals.AmendRefusal.{AmendRefusal}
use Rattle.plan.specs.Ledgers.{query_of, outcome_on, ledger_after}
use Rattle.plan.specs.Plans.{chart_of_draft, ends_of_draft, ledger_of}
use Rattle.reader.specs.declared.file_index.Counts.{Counts}
use Rattle.reader.specs.declared.reader.Reader.{Reader}
use Rattle.reader.specs.Readings.{file_of, names_of, Accepts}
use Rattle.library_example.specs.Answers.{filed_on, IsFileOf, IsAmendmentRefused, IsRoutedAfter}

-- what holds of a refusal still holds once `?` has made the answer's own of it
pub passed_on : (P : Result FoundRoute NoAnswer → Type 0) {e : NoAnswer} (r : Result FoundRoute NoAnswer) → IsErrAnd r (λ x. x ≡ e) → P (Err e) → P r
passed_on P r same holds = let p = err_from_is_err_and r same in rw (p.1, p.2) holds

-- what an accepted result says, where it can't be refused
pub accepted : {A E : Type 0} (T : Type 0) (Q : E → Type 0) (r : Result A E) → MatchResult r (λ _. T) Q → is_ok r ≡ true → T
accepted T Q (Ok x) h ok = h
accepted T Q (Err e) h ok = search rules

-- the fault of a file, by its bytes and the room there is
pub fault_of : {file file' : List ℕ} {n : ℕ} {r : Report} → IsFaultOf file' n r → file' ≡ file → n ≡ max_legs → IsFaultOf file max_legs r
fault_of {file} {file'} {n} {r} h f e = subst (λ g. IsFaultOf g max_legs r) f (subst (λ m. IsFaultOf file' m r) e h)

-- a plan that is filed from the first fix to the last
abbrev between : List Leg → ℕ → ℕ → Ledger
between legs departure destination = record { revision = 0; legs = legs; amended = []; departure = departure; destination = destination }

pub filed_at : (legs : List Leg) (fixes : ℕ) (ends : Ends) → ends.from ≡ 0 → ends.to + 1 ≡ fixes → at_filing legs ends ≡ filed_on fixes legs
filed_at legs fixes ends first last =
    let to : ends.to ≡ fixes - 1 = omega arith in
    ap (λ d. between legs d ends.to) first ∙ ap (λ d. between legs 0 d) to

-- the rows that a table is over, of memory that has the legs of an accepted file
rows_taken : (rows was is : List Row) (n : ℕ) → is ≡ rows ++ drop (length rows) was → n ≡ length rows → take n is ≡ rows
rows_taken rows was is n filled count = rw (filled, count) (take-append_seam rows (drop (length rows) was))

-- a plan that is filed on the table of a file's legs, from what the calls on the way to it promise
module _ (file : List ℕ) (file' : List ℕ) (reader : Reader) (counts : Counts) (was is : List Row) (table table' : Table) (d : Draft Table) (plan : Filed Table)
    (accepted_file : Accepts file' (names_of reader) counts was is) (of_file : file' ≡ file) (same_file : file_of reader ≡ file')
    (over : table.rows.now ≡ take counts.legs is) where
  abbrev own : List Leg
  own = table_legs table'

  means : Means file (names_of reader) table.rows.now
  means = rw (over, rows_taken accepted_file.chart.legs was is counts.legs accepted_file.filled accepted_file.chart.count) (subst (λ f. Means f (names_of reader) accepted_file.chart.legs) of_file accepted_file.chart.means)

  means_read : Means (file_of reader) (names_of reader) table.rows.now
  means_read = subst (λ f. Means f (names_of reader) table.rows.now) (sym (same_file ∙ of_file)) means

  pub file_of_plan : {A : Type 0} (Q : TableRefusal → Type 0) (r : Result A TableRefusal) →
      (Means (file_of reader) (names_of reader) table.rows.now → is_ok r ≡ true) →
      MatchResult r (λ _. (table'.fixes ≡ length (names_of reader)) × (map row_of_leg own ≡ table.rows.now)) Q →
      IsFileOf file table'.fixes own
  file_of_plan Q r sure taken =
      let t = accepted _ Q r taken (sure means_read) in
      record { names = names_of reader; as_many = t.0; means = subst (λ rows. Means file (names_of reader) rows) (sym t.1) means }

  pub filed_plan : chart_of_draft d ≡ table' → (ends_of_draft d).from ≡ 0 → (ends_of_draft d).to + 1 ≡ table'.fixes →
      ledger_of table_legs plan ≡ at_filing (table_legs (chart_of_draft d)) (ends_of_draft d) →
      ledger_of table_legs plan ≡ filed_on table'.fixes own
  filed_plan on first last ledger = ledger ∙ ap (λ t. at_filing (table_legs t) (ends_of_draft d)) on ∙ filed_at own table'.fixes (ends_of_draft d) first last

-- what such a plan is answered: the amendment, or the route
module _ (file : List ℕ) (fixes : ℕ) (a : Amendment) (own : List Leg) (l : Ledger) (of_file : IsFileOf file fixes own) (filed : l ≡ filed_on fixes own) where
  pub amendment_refused : (e : AmendRefusal) → refused (amend_number e) ≡ outcome_on l a → IsAmendmentRefused file a e
  amendment_refused e answer = record { fixes = fixes; legs = own; of_file = of_file; refusal = sym (answer ∙ ap (λ x. outcome_on x a) filed) }

  pub routed_after : (x n : ℕ) (l' : Ledger) (memory : List ℕ) (answer : Result FoundRoute RouteRefusal) (memory' : List ℕ) →
      values (x ∷ []) ≡ outcome_on l a → l' ≡ ledger_after own l a → n ≡ fixes →
      IsRouteOutcome (query_of l') n memory (route_outcome answer) memory' → IsRoutedAfter file a memory answer memory'
  routed_after x n l' memory answer memory' granted after same route = record {
    fixes = fixes;
    legs = own;
    of_file = of_file;
    revision = x;
    granted = sym (granted ∙ ap (λ x. outcome_on x a) filed);
    routed = subst (λ k. IsRouteOutcome (query_of (ledger_after own (filed_on fixes own) a)) k memory (route_outcome answer) memory') same
        (subst (λ k. IsRouteOutcome (query_of k) n memory (route_outcome answer) memory') (after ∙ ap (λ k. ledger_after own k a) filed) route);
  }
