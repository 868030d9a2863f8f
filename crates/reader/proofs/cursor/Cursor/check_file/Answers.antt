use Rattle.std.proofs.Common.{◌≤◌, sym, refl, subst}
use Rattle.reader.proofs.FaultPassedOn.{fault_passed_on}
use Rattle.reader.proofs.AfterRecords.{after_no_names, after_no_legs}
use Rattle.reader.proofs.cursor.Cursor.check_file.Goals as goal

pub read_fixes-requires-clause-before_names : goal.read_fixes-requires-clause-before_names
read_fixes-requires-clause-before_names c =
    let h = c.in_ok-counts.ensures in
    after_no_names c.args.file.now c.args.room c.requires.bytes h.0 h.1 refl h.3

pub returns-in_err-read_fixes : goal.returns-in_err-read_fixes
returns-in_err-read_fixes c =
    let h = c.in_ok-counts.ensures in
    let s = c.in_err-read_fixes.ensures in
    fault_passed_on c.from_residual-in_err-read_fixes.result _ _ c.from_residual-in_err-read_fixes.ensures.1 (s.fault c.args.room h.0.1.1.1.1.1.0, s.there)

pub returns-in_err-read_legs_to_end : goal.returns-in_err-read_legs_to_end
returns-in_err-read_legs_to_end c =
    let h = c.in_ok-counts.ensures in
    let r = c.in_ok-read_fixes.ensures in
    let s = c.in_err-read_legs_to_end.ensures _ (after_no_legs h.2 r.1 r.0) in
    fault_passed_on c.from_residual-in_err-read_legs_to_end.result _ _ c.from_residual-in_err-read_legs_to_end.ensures.1 (s.fault c.args.room (subst (λ x. x ≤ c.args.room) (sym h.2) h.0.1.1.1.1.1.0), s.there)

pub returns : goal.returns
returns c =
    let h = c.in_ok-counts.ensures in
    let r = c.in_ok-read_fixes.ensures in
    let e = c.in_ok-read_legs_to_end.ensures in (
      record {
        means = e.means _ (after_no_legs h.2 r.1 r.0);
        most = r.0.prefix.valid.counts_valid.most;
        whole = r.1;
        bodies = r.0.bodies;
        indexed = r.0.indexed;
        within = e.within;
        fits = subst (λ x. x ≤ c.args.room) (sym h.2) h.0.1.1.1.1.1.0;
      },
      e.end,
    )
