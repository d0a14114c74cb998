-- What is answered before a byte is written: by the row count, and by what the rows are judged as.
use Rattle.std.specs.Prelude.{Result, Ok, Err, Some, None}
use Prim.Native.Nat.{ℕ, ◌/◌, ◌≤◌, ◌<◌}
use mathlib.Core.Bool.{Bool, true, false}
use mathlib.Core.List.{List}
use mathlib.Core.Path.{◌≡◌, refl, sym, ◌∙◌, ap}
use native.Mathlib.Omega.{arith}
use borrow.Author.Tests.{ltb-false, lt-ltb, le-ltb}
use lib.Dec.{ltb}
use lib.ListN.{length}
use Rattle.octets.specs.declared.Fault.{Fault}
use Rattle.octets.specs.declared.Refusal.TheVariants.{NoDnaBlockFound, NotThere}
use Rattle.octets.proofs.Tests.{held, failed}
use Rattle.dna.specs.declared.dna.DnaCounts.{DnaCounts}
use Rattle.header.specs.declared.Header.{Header}
use Rattle.block.specs.Rows.{per_row, rows_spelt}
use Rattle.writable.specs.declared.writable.WritableError.{WritableError}
use Rattle.writable.specs.Writable.{Last, all_judged, fitted, on_last, needed_for, needed_of}

module _ (h : Header) (t : List ℕ) (rows : ℕ) (s : List ℕ) where
  pub needed_short : length t / per_row < rows → Err (WritableError.Fault (Fault.Refusal NotThere)) ≡ needed_of h t rows s
  unfolding needed_of
  needed_short k = sym (held _ _ (lt-ltb _ _ k))

  module _ (k : rows ≤ length t / per_row) where
    pub needed_rows : needed_of h t rows s ≡ needed_for h s (rows_spelt t rows 0)
    unfolding needed_of
    needed_rows = failed _ _ (le-ltb _ _ k)

    by_last : (j : Result Last Fault) → j ≡ all_judged h.endianness s (rows_spelt t rows 0) None → needed_of h t rows s ≡ on_last j h (rows_spelt t rows 0)
    unfolding needed_for
    by_last j e = needed_rows ∙ ap (λ (q : Result Last Fault). on_last q h (rows_spelt t rows 0)) (sym e)

    pub needed_stops : (f : Fault) → Err f ≡ all_judged h.endianness s (rows_spelt t rows 0) None → Err (WritableError.Fault f) ≡ needed_of h t rows s
    needed_stops f e = sym (by_last (Err f) e)

    pub needed_other : Ok None ≡ all_judged h.endianness s (rows_spelt t rows 0) None → Err (WritableError.Fault (Fault.Refusal NoDnaBlockFound)) ≡ needed_of h t rows s
    needed_other e = sym (by_last (Ok None) e)

    pub needed_dna : (n : DnaCounts) → Ok (Some n) ≡ all_judged h.endianness s (rows_spelt t rows 0) None → (r : Result ℕ WritableError) → r ≡ fitted h (rows_spelt t rows 0)
        → r ≡ needed_of h t rows s
    needed_dna n e r q = q ∙ sym (by_last (Ok (Some n)) e)

-- where bytes are needed, the table has the rows
pub needed_there : (h : Header) (t : List ℕ) (rows : ℕ) (s : List ℕ) (n : ℕ) → Ok n ≡ needed_of h t rows s → rows ≤ length t / per_row
unfolding needed_of
needed_there h t rows s n e = go (ltb (length t / per_row) rows) refl e
  where
    go : (b : Bool) → ltb (length t / per_row) rows ≡ b → Ok n ≡ (elim b as (λ c. (Result ℕ WritableError)) [ true ↦ Err (WritableError.Fault (Fault.Refusal NotThere)) | false ↦ needed_for h s (rows_spelt t rows 0) ])
        → rows ≤ length t / per_row
    go true q w =
        let y : ◌≡◌ {A = ℕ} 0 1 = cc in
        absurd (omega arith)
    go false q w = ltb-false _ _ q
