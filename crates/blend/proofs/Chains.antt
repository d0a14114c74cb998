-- Laws of the chain: each block moves on, enough boundaries are always left, and the rows are those that the second pass goes over again.
use Rattle.std.specs.Prelude.{Result, Ok, Err, Option, None}
use Prim.Native.Nat.{ℕ, zero, suc, ◌+◌, ◌-◌, ◌≤◌, ◌<◌}
use mathlib.Core.Bool.{Bool, true, false}
use mathlib.Core.List.{List, [], ◌∷◌, ◌++◌}
use mathlib.Core.Path.{◌≡◌, refl, sym, ◌∙◌, ap}
use native.Mathlib.Omega.{arith}
use lib.ListN.{length}
use Rattle.octets.specs.declared.Fault.{Fault}
use Rattle.octets.specs.declared.Fault.TheVariants.{Cut}
use Rattle.octets.specs.Ascii.{ascii}
use Rattle.octets.specs.Helpers.{go_on}
use Rattle.octets.specs.Reader.{Outcome, run, stands}
use Rattle.octets.specs.Reader.Outcome.{read, fault}
use Rattle.octets.proofs.Marks.{stands-cut, stands-room}
use Rattle.octets.proofs.Tests.{held, failed}
use Rattle.dna.specs.Catalogue.{Dna, catalogue}
use Rattle.header.specs.declared.Header.{Header}
use Rattle.block.specs.declared.Row.{Row}
use Rattle.dna.specs.declared.dna.DnaCounts.{DnaCounts}
use Rattle.blend.specs.declared.blend.Pass.{Pass}
use Rattle.blend.specs.declared.blend.Boundary.{Boundary}
use Rattle.block.specs.Kinds.{kind_of}
use Rattle.blend.specs.Blocks.{is_dna, row_at, catalogued, finished, on_row, boundary_of}
use Rattle.block.specs.Rows.{payload_of, row_numbers, row_table}
use Rattle.blend.specs.Chain.{Chain, ended, link, chain, chain_from}
use Rattle.blend.specs.Helpers.{summed, summed_as, rows_from}
use Rattle.header.proofs.Lengths.{header_at-least}
use Rattle.block.proofs.Layouts.{code-cut}
use Rattle.blend.proofs.Rows.{Lies, row_lies, row-no_header, boundary_stops}

-- a block at a boundary has its row
module _ (h : Header) (s : List ℕ) (at : ℕ) (r : Row) (l : Option DnaCounts) (next : ℕ) where
  catalogued-row : (q : Row) (n : ℕ) (o : Outcome Dna) → catalogued q n o ≡ Ok (Boundary.Block r l next) → (q ≡ r) × (n ≡ next)
  catalogued-row q n (read d end) e = (cc, cc)
  catalogued-row q n (fault x) e = (cc, cc)

  finished-row : (q : Row) (n : ℕ) → finished h s q n ≡ Ok (Boundary.Block r l next) → (q ≡ r) × (n ≡ next)
  unfolding finished
  finished-row q n e = go (is_dna (kind_of q.code)) refl
    where
      go : (t : Bool) → is_dna (kind_of q.code) ≡ t → (q ≡ r) × (n ≡ next)
      go true u = catalogued-row q n (run (catalogue h.endianness) (payload_of s q) 0) (sym (held _ _ u) ∙ e)
      go false u =
          let g : (Ok (Boundary.Block q None n)) ≡ (Ok (Boundary.Block r l next)) = sym (failed _ _ u) ∙ e in
          (cc, cc)

  pub block_row : boundary_of h s at ≡ Ok (Boundary.Block r l next) → row_at h s at ≡ read r next
  unfolding boundary_of
  block_row e = go (stands s at (ascii "ENDB")) refl
    where
      by : (o : Outcome Row) → row_at h s at ≡ o → on_row h s o ≡ Ok (Boundary.Block r l next) → o ≡ read r next
      by (read q n) u g =
          let w = finished-row q n g in
          rw (w.0, w.1) refl
      by (fault x) u g = cc

      go : (t : Bool) → stands s at (ascii "ENDB") ≡ t → row_at h s at ≡ read r next
      go true u =
          let g : (Ok Boundary.EndMark) ≡ (Ok (Boundary.Block r l next)) = sym (held _ _ u) ∙ e in
          cc
      go false u = by (row_at h s at) refl (sym (failed _ _ u) ∙ e)

  pub block_lies : boundary_of h s at ≡ Ok (Boundary.Block r l next) → Lies h s at r next
  block_lies e = row_lies h s at r next (block_row e)

-- the next boundary is further on, and in the file
pub block_moves : (h : Header) (s : List ℕ) (at : ℕ) (r : Row) (l : Option DnaCounts) (next : ℕ) → boundary_of h s at ≡ Ok (Boundary.Block r l next) → (at + 20 ≤ next) × (next ≤ length s)
block_moves h s at r l next e =
    let w = block_lies h s at r l next e in
    (omega (arith, w.header, w.payload, header_at-least h.format h.pointer_size), w.inside)

-- nothing is read where there is no room for a code
pub code-stops : (h : Header) (s : List ℕ) (at : ℕ) → length s < at + 4 → boundary_of h s at ≡ Err (Cut at)
code-stops h s at k =
    sym (boundary_stops h s at (sym (stands-cut s at (ascii "ENDB") (λ z. absurd (omega arith)) k)) (Cut at)
    (row-no_header h s at (Cut at) (code-cut h s at k)))

pub end-stops : (h : Header) (s : List ℕ) (at : ℕ) → length s ≤ at → boundary_of h s at ≡ Err (Cut at)
end-stops h s at e = code-stops h s at (omega arith)

-- Fuel: where more boundaries are left than bytes, one more can be taken off, and any number that is enough gives the same.
module _ (h : Header) (s : List ℕ) where
  pub one_less : (n at : ℕ) → length s < at + n → at ≤ length s → (k : ℕ) × (n ≡ suc k)
  one_less zero at e g = absurd (omega arith)
  one_less (suc k) at e g = (k, refl)

  pub enough : (n m at : ℕ) (last : Option DnaCounts) → length s < at + n → length s < at + m → at ≤ length s → chain n h s at last ≡ chain m h s at last
  unfolding chain
  enough zero m at last e g i = absurd (omega arith)
  enough (suc n) zero at last e g i = absurd (omega arith)
  enough (suc n) (suc m) at last e g i = go (boundary_of h s at) refl (λ next l. enough n m next l)
    where
      go : (b : Result Boundary Fault) → boundary_of h s at ≡ b
          → ((next : ℕ) (l : Option DnaCounts) → length s < next + n → length s < next + m → next ≤ length s → chain n h s next l ≡ chain m h s next l)
          → link b last at (chain n h s) ≡ link b last at (chain m h s)
      go (Ok Boundary.EndMark) t f = refl
      go (Err x) t f = refl
      go (Ok (Boundary.Block r l next)) t f =
          let w = block_moves h s at r l next t in
          ap (λ (c : Chain). record { rows = r ∷ c.rows; last = c.last }) (f next l (omega (arith, w.0)) (omega (arith, w.0)) w.1)

-- The first pass: what it has counted and what is left.
pub record Counting (h : Header) (s : List ℕ) (from : ℕ) (p : Pass) : Type 0 where
  pub fuel : ℕ
  pub enough : length s < p.at + fuel
  pub inside : p.at ≤ length s
  pub few : p.rows ≤ p.at
  pub same : summed 0 (chain_from h s from) ≡ summed p.rows (chain fuel h s p.at p.last)

module _ (h : Header) (s : List ℕ) (from : ℕ) where
  pub counting_starts : from ≤ length s → Counting h s from (record { at = from; rows = 0; last = None })
  unfolding chain_from
  counting_starts e = record { fuel = suc (length s); enough = omega arith; inside = e; few = omega arith; same = refl }

  module _ (p : Pass) (c : Counting h s from p) where
    linked : (k : ℕ) × (summed 0 (chain_from h s from) ≡ summed p.rows (link (boundary_of h s p.at) p.last p.at (chain k h s))) × (length s < p.at + suc k)
    unfolding chain
    linked =
        let w = one_less h s c.fuel p.at c.enough c.inside in
        (w.0, c.same ∙ ap (λ (n : ℕ). summed p.rows (chain n h s p.at p.last)) w.1, rw w.1 at c.enough)

    linked-by : (b : Result Boundary Fault) → boundary_of h s p.at ≡ b → summed 0 (chain_from h s from) ≡ summed p.rows (link b p.last p.at (chain linked.0 h s))
    linked-by b e = linked.1 ∙ ap (λ (d : Result Boundary Fault). summed p.rows (link d p.last p.at (chain linked.0 h s))) e

    pub counting_ends : boundary_of h s p.at ≡ Ok Boundary.EndMark → summed_as p.rows (ended p.last (p.at + 4)) ≡ summed 0 (chain_from h s from)
    counting_ends e =
        let z : p.rows + 0 ≡ p.rows = omega arith in
        sym (linked-by (Ok Boundary.EndMark) e ∙ ap (λ (n : ℕ). summed_as n (ended p.last (p.at + 4))) z)

    pub counting_stops : (x : Fault) → boundary_of h s p.at ≡ Err x → Err x ≡ summed 0 (chain_from h s from)
    counting_stops x e = sym (linked-by (Err x) e)

    pub counting_more : (r : Row) (l : Option DnaCounts) (next : ℕ) → boundary_of h s p.at ≡ Ok (Boundary.Block r l next) → (q : Pass) → q ≡ record { at = next; rows = p.rows + 1; last = l }
        → Counting h s from q
    counting_more r l next e q t =
        let w = block_moves h s p.at r l next e in
        let k = linked.0 in
        let z : p.rows + suc (length (chain k h s next l).rows) ≡ p.rows + 1 + length (chain k h s next l).rows = omega arith in
        rw t (record {
          fuel = k;
          enough = omega (arith, linked.2, w.0);
          inside = w.1;
          few = omega (arith, w.0, c.few);
          same = linked-by (Ok (Boundary.Block r l next)) e ∙ ap (λ (n : ℕ). summed_as n (chain k h s next l).last) z;
        })

-- The second pass: the rows of the chain, read again without its end marks and catalogues.
pub rows-again : (n : ℕ) (h : Header) (s : List ℕ) (at : ℕ) (last : Option DnaCounts) → rows_from (length (chain n h s at last).rows) h s at ≡ (chain n h s at last).rows
unfolding chain rows_from
rows-again zero h s at last = refl
rows-again (suc n) h s at last = go (boundary_of h s at) refl (λ next l. rows-again n h s next l)
  where
    go : (b : Result Boundary Fault) → boundary_of h s at ≡ b → ((next : ℕ) (l : Option DnaCounts) → rows_from (length (chain n h s next l).rows) h s next ≡ (chain n h s next l).rows)
        → rows_from (length (link b last at (chain n h s)).rows) h s at ≡ (link b last at (chain n h s)).rows
    go (Ok Boundary.EndMark) t f = refl
    go (Err x) t f = refl
    go (Ok (Boundary.Block r l next)) t f =
        ap (λ (o : Outcome Row). go_on o (rows_from (length (chain n h s next l).rows) h s)) (block_row h s at r l next t) ∙ ap (λ (q : List Row). r ∷ q) (f next l)

-- an end mark stands there, and is in the file
pub mark-stands : (h : Header) (s : List ℕ) (at : ℕ) → boundary_of h s at ≡ Ok Boundary.EndMark → stands s at (ascii "ENDB") ≡ true
unfolding boundary_of finished
mark-stands h s at e = go (stands s at (ascii "ENDB")) refl
  where
    by : (o : Outcome Row) → on_row h s o ≡ Ok Boundary.EndMark → false ≡ true
    by (read r n) g = no (is_dna (kind_of r.code)) refl
      where
        some : (o : Outcome Dna) → catalogued r n o ≡ Ok Boundary.EndMark → false ≡ true
        some (read d end) w = cc
        some (fault x) w = cc

        no : (t : Bool) → is_dna (kind_of r.code) ≡ t → false ≡ true
        no true u = some (run (catalogue h.endianness) (payload_of s r) 0) (sym (held _ _ u) ∙ g)
        no false u =
            let w : (Ok (Boundary.Block r None n)) ≡ (Ok Boundary.EndMark) = sym (failed _ _ u) ∙ g in
            cc
    by (fault x) g = cc

    go : (t : Bool) → stands s at (ascii "ENDB") ≡ t → t ≡ true
    go true u = refl
    go false u = by (row_at h s at) (sym (failed _ _ u) ∙ e)

pub mark-room : (h : Header) (s : List ℕ) (at : ℕ) → boundary_of h s at ≡ Ok Boundary.EndMark → at + 4 ≤ length s
mark-room h s at e = omega (arith, stands-room s at (ascii "ENDB") (mark-stands h s at e))

-- the table's numbers, one row more
module _ (h : Header) (s : List ℕ) (left at : ℕ) where
  pub rows_more : 0 < left → (r : Row) (next : ℕ) → row_at h s at ≡ read r next → row_table (rows_from left h s at) ≡ row_numbers r ++ row_table (rows_from (left - 1) h s next)
  unfolding row_table rows_from
  rows_more e r next g =
      let k : left ≡ suc (left - 1) = omega arith in
      ap (λ (n : ℕ). row_table (rows_from n h s at)) k ∙ ap (λ (o : Outcome Row). row_table (go_on o (rows_from (left - 1) h s))) g

  pub rows_none : left ≤ 0 → row_table (rows_from left h s at) ≡ []
  unfolding row_table rows_from
  rows_none e =
      let k : left ≡ 0 = omega arith in
      ap (λ (n : ℕ). row_table (rows_from n h s at)) k
