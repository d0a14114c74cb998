-- Laws of a block and its row: how the tree of a block goes on, where a row's payload lies, and what is at a boundary.
use Rattle.std.specs.Prelude.{Result, Ok, Err, Some, None}
use Prim.Native.Nat.{ℕ, ◌+◌, ◌≤◌}
use mathlib.Core.Bool.{Bool, true, false}
use mathlib.Core.List.{List}
use mathlib.Core.Path.{◌≡◌, refl, sym, ◌∙◌, ap}
use native.Mathlib.Omega.{arith}
use lib.Dec.{eqb}
use lib.ListN.{length}
use Rattle.octets.specs.declared.Fault.{Fault}
use Rattle.octets.specs.declared.Refusal.{Refusal}
use Rattle.octets.specs.declared.Refusal.TheVariants.{UnsupportedCountOnPrincipalBlock}
use Rattle.octets.specs.Ascii.{ascii}
use Rattle.octets.specs.Helpers.{Placed}
use Rattle.octets.specs.Reader.{Reader, Outcome, run, then, stands}
use Rattle.octets.specs.Reader.Reader.{done, refuse, skip}
use Rattle.octets.specs.Reader.Outcome.{read, fault}
use Rattle.octets.proofs.Extent.{stops-within}
use Rattle.octets.proofs.Onward.{skip-on, skip-stops}
use Rattle.octets.proofs.Tests.{held, failed}
use Rattle.octets.proofs.Times.{goes_on, stops}
use Rattle.dna.specs.declared.dna.DnaCounts.{DnaCounts}
use Rattle.dna.specs.Catalogue.{Dna, catalogue, counts, counts_only, outcome_of}
use Rattle.header.specs.declared.Header.{Header}
use Rattle.block.specs.declared.BlockHeader.{BlockHeader}
use Rattle.block.specs.declared.Row.{Row}
use Rattle.block.specs.declared.Kind.{Kind}
use Rattle.blend.specs.declared.blend.Boundary.{Boundary}
use Rattle.header.specs.Layout.{block_header_length}
use Rattle.block.specs.BlockHeaders.{block_header}
use Rattle.block.specs.Kinds.{kind_of}
use Rattle.blend.specs.Blocks.{taken, block, rowed, row_at, within, catalogued, is_dna, finished, on_row, boundary_of}
use Rattle.block.specs.Rows.{row_of, payload_of}
use Rattle.blend.specs.Helpers.{taking}
use Rattle.octets.proofs.Parts.{skip-room}
use Rattle.block.proofs.Layouts.{block_header_moves}

-- a block, read by read
module _ (h : Header) (s : List ℕ) (at : ℕ) where
  unfoldable pub by_code : BlockHeader → Reader BlockHeader
  by_code b = then (taken (kind_of b.code) b.count) (λ u. done b)

  pub row-no_header : (x : Fault) → fault x ≡ run (block_header h) s at → fault x ≡ row_at h s at
  unfolding row_at block
  row-no_header x g = sym (ap (rowed h at) (stops (block_header h) _ s at x (sym g)))

  module _ (b : BlockHeader) (from : ℕ) (g : read b from ≡ run (block_header h) s at) where
    on-header : run (block h) s at ≡ run (skip b.size (by_code b)) s from
    unfolding block by_code
    on-header = goes_on (block_header h) (λ d. skip d.size (by_code d)) s at b from (sym g)

    pub row-no-payload : (x : Fault) → ◌≡◌ {A = Outcome (Unit {0})} (fault x) (run (skip b.size (done tt)) s from) → fault x ≡ row_at h s at
    unfolding row_at
    row-no-payload x k = sym (ap (rowed h at) (on-header ∙ skip-stops s from b.size (by_code b) x k))

    pub payload-at : from ≡ at + block_header_length h.format h.pointer_size
    payload-at = block_header_moves h s at b from (sym g)

    module _ (next : ℕ) (k : ◌≡◌ {A = Outcome (Unit {0})} (read tt next) (run (skip b.size (done tt)) s from)) where
      pub on-payload : run (block h) s at ≡ run (by_code b) s next
      on-payload = on-header ∙ skip-on s from b.size (by_code b) next k

      pub payload-fits : at + block_header_length h.format h.pointer_size ≤ length s
      payload-fits = omega (arith, payload-at, (skip-room b.size s from next k).1)

      module _ (q : Kind) (c : q ≡ kind_of b.code) where
        as_code : (t : Result (Unit {0}) Refusal) → taking t ≡ taken q b.count → run (block h) s at ≡ run (then (taking t) (λ u. done b)) s next
        unfolding by_code
        as_code t e = on-payload ∙ ap (λ (r : Reader (Unit {0})). run (then r (λ u. done b)) s next) (sym (e ∙ ap (λ (j : Kind). taken j b.count) c))

        pub row-refused : (n : Refusal) → taking (Err n) ≡ taken q b.count → fault (Fault.Refusal n) ≡ row_at h s at
        unfolding row_at run then
        row-refused n e = sym (ap (rowed h at) (as_code (Err n) e))

        pub row_read_lem : taking (Ok tt) ≡ taken q b.count → (r : Row) → r ≡ row_of h at b → read r next ≡ row_at h s at
        unfolding row_at run then
        row_read_lem e r w = ap (λ (v : Row). read v next) w ∙ sym (ap (rowed h at) (as_code (Ok tt) e))

-- Where a block that was read lies: its header, its payload, and the next boundary, all in the file.
pub record Lies (h : Header) (s : List ℕ) (at : ℕ) (r : Row) (next : ℕ) : Type 0 where
  pub starts : r.at ≡ at
  pub header : r.payload ≡ at + block_header_length h.format h.pointer_size
  pub payload : next ≡ r.payload + r.len
  pub inside : next ≤ length s

-- a code that is taken moves nothing
code_reads : (q : Kind) (n : ℕ) (b : BlockHeader) (s : List ℕ) (at : ℕ) (d : BlockHeader) (next : ℕ) → run (then (taken q n) (λ u. done b)) s at ≡ read d next → (d ≡ b) × (next ≡ at)
unfolding run then
code_reads Kind.Rend n b s at d next h = (cc, cc)
code_reads Kind.Test n b s at d next h = (cc, cc)
code_reads Kind.Global n b s at d next h = (cc, cc)
code_reads Kind.Subsidiary n b s at d next h = (cc, cc)
code_reads Kind.Dna n b s at d next h = (cc, cc)
code_reads Kind.Unknown n b s at d next h = (cc, cc)
code_reads Kind.Principal n b s at d next h = go (eqb n 1) h
  where
    go : (t : Bool) → run (then {A = Unit {0}} (elim t as (λ (c : Bool). Reader (Unit {0})) [ true ↦ done tt | false ↦ refuse UnsupportedCountOnPrincipalBlock ]) (λ u. done b)) s at ≡ read d next → (d ≡ b) × (next ≡ at)
    go true g = (cc, cc)
    go false g = (cc, cc)

-- What was read of a block that has a row: its header, the payload's bytes, and the row of both.
pub record Headed (h : Header) (s : List ℕ) (at : ℕ) (r : Row) (next : ℕ) : Type 0 where
  pub block : BlockHeader
  pub from : ℕ
  pub header : read block from ≡ run (block_header h) s at
  pub payload : ◌≡◌ {A = Outcome (Unit {0})} (read tt next) (run (skip block.size (done tt)) s from)
  pub row : r ≡ row_of h at block

module _ (h : Header) (s : List ℕ) (at : ℕ) (r : Row) (next : ℕ) (g : row_at h s at ≡ read r next) where
  headed : (b : BlockHeader) (from : ℕ) → read b from ≡ run (block_header h) s at → (end : ℕ) → ◌≡◌ {A = Outcome (Unit {0})} (read tt end) (run (skip b.size (done tt)) s from)
      → (o : Outcome BlockHeader) → run (block h) s at ≡ o → rowed h at o ≡ read r next → Headed h s at r next
  unfolding by_code
  headed b from t end v (read d m) w e =
      let c = code_reads (kind_of b.code) b.count b s end d m (sym (on-payload h s at b from t end v) ∙ w) in
      let q : r ≡ row_of h at d = cc in
      let n : next ≡ end = cc in
      record { block = b; from = from; header = t; payload = ap (λ (k : ℕ). read tt k) n ∙ v; row = q ∙ ap (row_of h at) c.0 }
  headed b from t end v (fault x) w e =
      let z : ◌≡◌ {A = ℕ} 0 1 = cc in
      absurd (omega arith)

  pub row-headed : Headed h s at r next
  unfolding row_at
  row-headed = first (run (block_header h) s at) refl
    where
      no : (x : Fault) → fault x ≡ row_at h s at → Headed h s at r next
      no x e =
          let c : fault x ≡ read r next = e ∙ g in
          let z : ◌≡◌ {A = ℕ} 0 1 = cc in
          absurd (omega arith)

      second : (b : BlockHeader) (from : ℕ) → run (block_header h) s at ≡ read b from → (o : Outcome (Unit {0})) → run (skip b.size (done tt)) s from ≡ o → Headed h s at r next
      second b from t (read u end) v = headed b from (sym t) end (sym v) (run (block h) s at) refl g
      second b from t (fault x) v = no x (row-no-payload h s at b from (sym t) x (sym v))

      first : (o : Outcome BlockHeader) → run (block_header h) s at ≡ o → Headed h s at r next
      first (read b from) t = second b from t (run (skip b.size (done tt)) s from) refl
      first (fault x) t = no x (row-no_header h s at x (sym t))

  pub row_lies : Lies h s at r next
  row_lies =
      let w = row-headed in
      let k = skip-room w.block.size s w.from next w.payload in
      let f = payload-at h s at w.block w.from w.header in
      record {
        starts = ap (λ (x : Row). x.at) w.row;
        header = ap (λ (x : Row). x.payload) w.row;
        payload = omega (arith, k.0, f, ap (λ (x : Row). x.payload) w.row, ap (λ (x : Row). x.len) w.row);
        inside = omega (arith, k.0, k.1);
      }

-- a block whose row is read: a DNA1's catalogue
module _ (h : Header) (s : List ℕ) (r : Row) (next : ℕ) (q : Kind) (e : q ≡ kind_of r.code) (t : Bool) (d : t ≡ is_dna q) where
  tested : is_dna (kind_of r.code) ≡ t
  tested = sym (d ∙ ap is_dna e)

  pub other_finished : t ≡ false → Ok (Boundary.Block r None next) ≡ finished h s r next
  unfolding finished
  other_finished f = sym (failed _ _ (tested ∙ f))

  module _ (f : t ≡ true) (p : List ℕ) (same : p ≡ payload_of s r) (c : Result (DnaCounts × ℕ) Fault) (k : outcome_of c ≡ counts_only (run (catalogue h.endianness) p 0)) where
    as-catalogue : finished h s r next ≡ catalogued r next (run (catalogue h.endianness) p 0)
    unfolding finished
    as-catalogue = held _ _ (tested ∙ f) ∙ ap (λ (l : List ℕ). catalogued r next (run (catalogue h.endianness) l 0)) (sym same)

    pub dna-finished : (n : DnaCounts) (end : ℕ) → c ≡ Ok (n, end) → Ok (Boundary.Block r (Some n) next) ≡ finished h s r next
    dna-finished n end w = go (run (catalogue h.endianness) p 0) refl (sym (ap outcome_of w) ∙ k)
      where
        go : (o : Outcome Dna) → run (catalogue h.endianness) p 0 ≡ o → read n end ≡ counts_only o → Ok (Boundary.Block r (Some n) next) ≡ finished h s r next
        go (read a m) u v =
            let x : n ≡ counts a = cc in
            ap (λ (j : DnaCounts). (Ok (Boundary.Block r (Some j) next))) x ∙ sym (as-catalogue ∙ ap (catalogued r next) u)
        go (fault y) u v = cc

    module _ (x : Fault) (w : c ≡ Err x) where
      catalogue-stops : run (catalogue h.endianness) p 0 ≡ fault x
      catalogue-stops = go (run (catalogue h.endianness) p 0) (sym (ap outcome_of w) ∙ k)
        where
          go : (o : Outcome Dna) → fault x ≡ counts_only o → o ≡ fault x
          go (read a m) v = cc
          go (fault y) v = cc

      pub dna-stopped : (y : Fault) → y ≡ within r.payload x → Err y ≡ finished h s r next
      dna-stopped y u = ap (λ (z : Fault). (Err z)) u ∙ sym (as-catalogue ∙ ap (catalogued r next) catalogue-stops)

      pub dna-placed : (n : ℕ) → length p ≡ n → Placed n x
      dna-placed n l = rw (← l) (stops-within (catalogue h.endianness) p x catalogue-stops)

-- what is at a boundary
module _ (h : Header) (s : List ℕ) (at : ℕ) where
  pub end_mark_lem : stands s at (ascii "ENDB") ≡ true → Ok Boundary.EndMark ≡ boundary_of h s at
  unfolding boundary_of
  end_mark_lem t = sym (held _ _ t)

  module _ (t : stands s at (ascii "ENDB") ≡ false) where
    on-block : boundary_of h s at ≡ on_row h s (row_at h s at)
    unfolding boundary_of
    on-block = failed _ _ t

    pub boundary_stops : (x : Fault) → fault x ≡ row_at h s at → Err x ≡ boundary_of h s at
    boundary_stops x g = sym (on-block ∙ ap (on_row h s) (sym g))

    pub boundary_block : (r : Row) (next : ℕ) → read r next ≡ row_at h s at → finished h s r next ≡ boundary_of h s at
    boundary_block r next g = sym (on-block ∙ ap (on_row h s) (sym g))
