-- The joint statement, from its parts, of rows with the numbers of the four-fix chart.
use Rattle.std.proofs.Common.{◌≡◌, ℕ, List, [], ◌∷◌, sym, subst, ◌∙◌}
use Rattle.chart.specs.declared.row.Row.{Row}
use Rattle.chart.specs.declared.row.Standing.TheVariants.{Open}
use Rattle.worked_examples.specs.FourFix.{row, four_fix_rows}
use Rattle.worked_examples.specs.AllExamples.{AllExamples}
use Rattle.worked_examples.proofs.FourFixAnswers.{four_fix_worked, four_fix_closed, small_lattice_worked}
use Rattle.worked_examples.proofs.FourFixPlan.{four_fix_amended}
use Rattle.worked_examples.proofs.TwoFixFilesMean.{two_fix_files}

-- an open row whose numbers are these
pub is_row : {a b c d e a' b' c' d' e' : ℕ} {r : Row} → r ≡ row a b c d e Open → a ≡ a' → b ≡ b' → c ≡ c' → d ≡ d' → e ≡ e' → r ≡ row a' b' c' d' e' Open
is_row same p q r s t = same ∙ (λ i. row (p i) (q i) (r i) (s i) (t i) Open)

module _ {a b c d e : Row} (first : a ≡ row 0 1 300 400 390 Open) (second : b ≡ row 1 3 300 500 350 Open) (third : c ≡ row 0 2 200 600 410 Open) (fourth : d ≡ row 2 3 250 450 370 Open) (fifth : e ≡ row 1 2 50 100 330 Open) where
  pub same_rows : a ∷ b ∷ c ∷ d ∷ e ∷ [] ≡ four_fix_rows
  same_rows = λ i. first i ∷ second i ∷ third i ∷ fourth i ∷ fifth i ∷ []

all_examples : AllExamples four_fix_rows
all_examples = record {
  as_it_is = four_fix_worked;
  with_closed_legs = four_fix_closed;
  as_a_plan = four_fix_amended;
  small_lattice = small_lattice_worked;
  small_files = two_fix_files;
}

pub rows_have_all_examples : (rows : List Row) → rows ≡ four_fix_rows → AllExamples rows
rows_have_all_examples rows same = subst AllExamples (sym same) all_examples
