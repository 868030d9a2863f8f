-- The legs put into memory, one by one.
use Rattle.std.proofs.Common.{◌≡◌, ℕ, ◌+◌, ◌*◌, ◌<◌, ◌≤◌, List, [], ◌∷◌, ◌++◌, length, take, drop, set, sym, ap, ◌∙◌, append_assoc}
use Rattle.std.proofs.lemmas.List.{set_at, drop_more, drop_all, append-nil, length-take-le}
use Rattle.chart.specs.declared.row.Row.{Row}
use Rattle.chart.specs.Rows.{no_row, row_at}
use Rattle.chart_format.specs.Format.{leg_record_length}
use Rattle.chart_format.specs.Checks.{body, leg_in}
use Rattle.reader.specs.internal.RecordPlaces.{legs_at, IsFilled}
use Rattle.reader.proofs.AfterRecords.{legs_length, legs_more}

-- one leg more
pub filled_more : (file : List ℕ) (p k : ℕ) (was old new : List Row) → IsFilled file p k was old → k < length was → new ≡ set old k (leg_in (body (drop (p + leg_record_length * k) file))) → IsFilled file p (k + 1) was new
filled_more file p k was old new f lt e =
    let leg = leg_in (body (drop (p + leg_record_length * k) file)) in
    let legs = legs_at file p k in
    e
    ∙ ap (λ rows. set rows k leg) (f ∙ ap (λ rows. legs ++ rows) (drop_more was k no_row lt))
    ∙ set_at legs (row_at was k) (drop (k + 1) was) leg k (legs_length file p k)
    ∙ sym (append_assoc legs (leg ∷ []) (drop (k + 1) was))
    ∙ ap (λ rows. rows ++ drop (k + 1) was) (sym (legs_more file p k))

-- and all of them
pub filled_all : (file : List ℕ) (p k : ℕ) (was is : List Row) → IsFilled file p k was is → length was ≤ k → is ≡ legs_at file p k
filled_all file p k was is f h = f ∙ ap (λ rows. legs_at file p k ++ rows) (drop_all k was h) ∙ append-nil (legs_at file p k)

-- the front of memory that was filled, with what is beyond it, is the legs and what was beyond them
pub front_filled : (file : List ℕ) (p : ℕ) (was : List Row) {front : List Row} {k m : ℕ} → front ≡ legs_at file p (length (take k was)) → k ≡ m → m ≤ length was → front ++ drop k was ≡ legs_at file p m ++ drop m was
front_filled file p was {front} {k} {m} f e fits =
    ap (λ i. front ++ drop i was) e
    ∙ ap (λ rows. rows ++ drop m was) (f ∙ ap (λ i. legs_at file p (length (take i was))) e ∙ ap (legs_at file p) (length-take-le m was fits))
