-- What stands at the boundaries of a file stands at those of any other that differs only in payloads of blocks other than DNA1.
use Rattle.std.specs.Prelude.{Result, Ok, Option, None}
use Prim.Native.Nat.{ℕ, ◌+◌, ◌≤◌, ◌<◌}
use mathlib.Core.Bool.{Bool, true, false, not, ◌&&◌, ◌||◌}
use mathlib.Core.List.{List, [], ◌∷◌}
use mathlib.Core.Path.{◌≡◌, refl, sym, ◌∙◌, ap}
use native.Mathlib.Omega.{arith}
use borrow.Author.Tests.{lt-leb, le-ltb}
use lib.Dec.{leb, ltb, eqb}
use lib.ListN.{length, get_or}
use Rattle.octets.specs.Ascii.{ascii}
use Rattle.octets.specs.Reader.{Outcome, run, then, same, stands}
use Rattle.octets.specs.Reader.Reader.{done, skip}
use Rattle.octets.specs.Reader.Outcome.{read}
use Rattle.octets.proofs.Reading.{skipped}
use Rattle.dna.specs.declared.dna.DnaCounts.{DnaCounts}
use Rattle.dna.specs.Catalogue.{catalogue}
use Rattle.header.specs.declared.Header.{Header}
use Rattle.block.specs.declared.BlockHeader.{BlockHeader}
use Rattle.block.specs.declared.Row.{Row}
use Rattle.block.specs.declared.Kind.{Kind}
use Rattle.blend.specs.declared.blend.Boundary.{Boundary}
use Rattle.octets.specs.declared.Fault.{Fault}
use Rattle.header.specs.Layout.{block_header_length}
use Rattle.block.specs.BlockHeaders.{block_header}
use Rattle.block.specs.Kinds.{code_number, is_principal, kind_of}
use Rattle.blend.specs.Blocks.{taken, block, rowed, row_at, catalogued, is_dna, finished, boundary_of}
use Rattle.block.specs.Rows.{payload_of}
use Rattle.blend.proofs.Chains.{block_row, block_lies, mark-stands, mark-room}
use Rattle.header.proofs.Lengths.{header_at-least}
use Rattle.blend.proofs.Rows.{Lies, row-headed, by_code, on-payload, payload-at, boundary_block, end_mark_lem}
use Rattle.octets.proofs.Parts.{skip-room}
use Rattle.demands.specs.Unaltered.{is_other, is_free}
use Rattle.octets.specs.Looks.{Untouched}
use Rattle.blend.proofs.Links.{Linked, no-mark, mark-ends, linked-ends}
use Rattle.octets.proofs.Own.{own, window}
use Rattle.block.proofs.Trees.{block_header_sober}
use Rattle.blend.proofs.Taken.{of-taken}

-- a code is taken or not whatever the bytes are
taken-same : (q : Kind) (n : ℕ) (b : BlockHeader) (s z : List ℕ) (at : ℕ) → run (then (taken q n) (λ u. done b)) s at ≡ run (then (taken q n) (λ u. done b)) z at
unfolding run then
taken-same q n b s z at = of-taken (λ r. run (then r (λ u. done b)) s at ≡ run (then r (λ u. done b)) z at) refl refl refl q n

-- a number whose kind is DNA1's is its code
dna-code : (n : ℕ) → is_dna (kind_of n) ≡ true → eqb n (code_number "DNA1") ≡ true
unfolding kind_of
dna-code n h = go (eqb n (code_number "REND")) (eqb n (code_number "TEST")) (eqb n (code_number "GLOB")) (eqb n (code_number "DATA")) (eqb n (code_number "DNA1")) (is_principal n) h
  where
    go : (a b c d e f : Bool)
        → is_dna
        (elim a as (λ (x : Bool). Kind) [
          | true ↦ Kind.Rend
          | false ↦ elim b as (λ (x : Bool). Kind) [
            | true ↦ Kind.Test
            | false ↦ elim c as (λ (x : Bool). Kind) [
              | true ↦ Kind.Global
              | false ↦ elim d as (λ (x : Bool). Kind) [
                | true ↦ Kind.Subsidiary
                | false ↦ elim e as (λ (x : Bool). Kind) [ true ↦ Kind.Dna | false ↦ elim f as (λ (x : Bool). Kind) [ true ↦ Kind.Principal | false ↦ Kind.Unknown ] ]
              ]
            ]
          ]
        ]) ≡ true → e ≡ true
    go true b c d e f k = cc
    go false true c d e f k = cc
    go false false true d e f k = cc
    go false false false true e f k = cc
    go false false false false true f k = refl
    go false false false false false true k = cc
    go false false false false false false k = cc

-- places that a row's payload does not make free
module _ (r : Row) (rs : List Row) (i : ℕ) where
  by : (c d e f : Bool) → (c && (d && e)) ≡ false → ((c && (d && e)) || f) ≡ f
  by c d e f k = rw k refl

  left : (c e : Bool) → (c && (false && e)) ≡ false
  left true e = refl
  left false e = refl

  right : (c d : Bool) → (c && (d && false)) ≡ false
  right true true = refl
  right true false = refl
  right false d = refl

  pub free_before : i < r.payload → is_free (r ∷ rs) i ≡ is_free rs i
  free_before h =
      by (is_other r) (leb r.payload i) (ltb i (r.payload + r.len)) (is_free rs i)
      (ap (λ (d : Bool). is_other r && (d && ltb i (r.payload + r.len))) (lt-leb _ _ h) ∙ left (is_other r) (ltb i (r.payload + r.len)))

  pub free_after : r.payload + r.len ≤ i → is_free (r ∷ rs) i ≡ is_free rs i
  free_after h =
      by (is_other r) (leb r.payload i) (ltb i (r.payload + r.len)) (is_free rs i)
      (ap (λ (e : Bool). is_other r && (leb r.payload i && e)) (le-ltb _ _ h) ∙ right (is_other r) (leb r.payload i))

  pub free_dna : eqb r.code (code_number "DNA1") ≡ true → is_free (r ∷ rs) i ≡ is_free rs i
  free_dna h = ap (λ (c : Bool). (not c && (leb r.payload i && ltb i (r.payload + r.len))) || is_free rs i) h

-- no place before a boundary is free by the rows after it
pub none_before : (h : Header) (s : List ℕ) (rows : List Row) (at : ℕ) (last : Option DnaCounts) (n : DnaCounts) (end : ℕ) → Linked h s at last rows n end → (i : ℕ) → i < at → is_free rows i ≡ false
none_before h s [] at last n end w i k = refl
none_before h s (r ∷ rs) at last n end w i k =
    let l = block_lies h s at r w.0 w.1 w.2 in
    free_before r rs i (omega (arith, l.header)) ∙ none_before h s rs w.1 w.0 n end w.3 i (omega (arith, l.header, l.payload))

module _ (h : Header) (s z : List ℕ) where
  row_kept : (at : ℕ) (r : Row) (next : ℕ) → row_at h s at ≡ read r next → Untouched s z at (at + block_header_length h.format h.pointer_size) → next ≤ length z → row_at h z at ≡ read r next
  unfolding row_at by_code
  row_kept at r next e u k =
      let w = row-headed h s at r next e in
      let b = w.block in
      let m = skip-room b.size s w.from next w.payload in
      let f = payload-at h s at b w.from w.header in
      let g : run (block_header h) z at ≡ read b w.from =
      own (block_header h) (block_header_sober h) s z at b w.from (sym w.header) (omega (arith, m.1)) (omega (arith, m.0)) (λ i p q. u i p (omega (arith, f))) in
      let v : ◌≡◌ {A = Outcome (Unit {0})} (read tt next) (run (skip b.size (done tt)) z w.from) =
      ap (λ (i : ℕ). read tt i) m.0 ∙ skipped b.size z w.from (omega (arith, m.0)) in
      let a : run (block h) z at ≡ run (block h) s at =
      on-payload h z at b w.from (sym g) next v ∙ sym (taken-same (kind_of b.code) b.count b s z next) ∙ sym (on-payload h s at b w.from w.header next w.payload) in
      ap (rowed h at) a ∙ e

  finished-kept : (r : Row) (next : ℕ) → (is_dna (kind_of r.code) ≡ true → payload_of z r ≡ payload_of s r) → finished h z r next ≡ finished h s r next
  unfolding finished
  finished-kept r next p = go (is_dna (kind_of r.code)) p
    where
      then-read : Bool → List ℕ → Result Boundary Fault
      then-read c p = elim c as (λ (d : Bool). (Result Boundary Fault)) [ true ↦ catalogued r next (run (catalogue h.endianness) p 0) | false ↦ Ok (Boundary.Block r None next) ]

      go : (c : Bool) → (c ≡ true → payload_of z r ≡ payload_of s r) → then-read c (payload_of z r) ≡ then-read c (payload_of s r)
      go true q = ap (then-read true) (q refl)
      go false q = refl

  stands-kept : (at : ℕ) → at + 4 ≤ length s → at + 4 ≤ length z → Untouched s z at (at + 4) → stands z at (ascii "ENDB") ≡ stands s at (ascii "ENDB")
  stands-kept at k m u = ap (λ (l : List ℕ). same l (ascii "ENDB")) (window s z at 4 k m u)

  pub block-kept : (at : ℕ) (r : Row) (l : Option DnaCounts) (next : ℕ) → boundary_of h s at ≡ Ok (Boundary.Block r l next) → Untouched s z at (at + block_header_length h.format h.pointer_size) → next ≤ length z
      → (is_dna (kind_of r.code) ≡ true → payload_of z r ≡ payload_of s r) → boundary_of h z at ≡ Ok (Boundary.Block r l next)
  block-kept at r l next e u k p =
      let i = block_lies h s at r l next e in
      let long = header_at-least h.format h.pointer_size in
      let g = block_row h s at r l next e in
      let f = no-mark h s at r l next e in
      let m : at + 4 ≤ length s = omega (arith, i.header, i.payload, i.inside, long) in
      let n : at + 4 ≤ length z = omega (arith, i.header, i.payload, long) in
      let v = stands-kept at m n (λ j a b. u j a (omega (arith, long))) in
      sym (boundary_block h z at (v ∙ f) r next (sym (row_kept at r next g u k))) ∙ finished-kept r next p ∙ boundary_block h s at f r next (sym g) ∙ e

  mark-kept : (at : ℕ) → boundary_of h s at ≡ Ok Boundary.EndMark → Untouched s z at (at + 4) → at + 4 ≤ length z → boundary_of h z at ≡ Ok Boundary.EndMark
  mark-kept at e u k = sym (end_mark_lem h z at (stands-kept at (mark-room h s at e) k u ∙ mark-stands h s at e))

  -- bytes that differ from `at` to `end` at most where these rows make them free
  abbrev pub Near : List Row → ℕ → ℕ → Type 0
  Near rows at end = (i : ℕ) → at ≤ i → i < end → is_free rows i ≡ false → get_or z i 0 ≡ get_or s i 0

  module _ (r : Row) (rs : List Row) (at : ℕ) (last : Option DnaCounts) (n : DnaCounts) (end : ℕ) (w : Linked h s at last (r ∷ rs) n end) (k : end ≤ length z) (u : Near (r ∷ rs) at end) where
    lies : Lies h s at r w.1
    lies = block_lies h s at r w.0 w.1 w.2

    ends : (w.1 + 4 ≤ end) × (end ≤ length s)
    ends = linked-ends h s rs w.1 w.0 n end w.3

    later : (i : ℕ) → i < w.1 → is_free rs i ≡ false
    later i m = none_before h s rs w.1 w.0 n end w.3 i m

    pub header-near : Untouched s z at (at + block_header_length h.format h.pointer_size)
    header-near i a b =
        u i a (omega (arith, lies.header, lies.payload, ends.0)) (free_before r rs i (omega (arith, lies.header)) ∙ later i (omega (arith, lies.header, lies.payload)))

    pub dna-near : is_dna (kind_of r.code) ≡ true → payload_of z r ≡ payload_of s r
    dna-near d =
        window s z r.payload r.len (omega (arith, lies.payload, lies.inside)) (omega (arith, lies.payload, ends.0))
        (λ i a b.
        u i (omega (arith, lies.header)) (omega (arith, lies.payload, ends.0)) (free_dna r rs i (dna-code r.code d) ∙ later i (omega (arith, lies.payload))))

    pub rest-near : Near rs w.1 end
    rest-near i a b f = u i (omega (arith, lies.header, lies.payload)) b (free_after r rs i (omega (arith, lies.payload)) ∙ f)

  pub kept : (rows : List Row) (at : ℕ) (last : Option DnaCounts) (n : DnaCounts) (end : ℕ) → Linked h s at last rows n end → end ≤ length z → Near rows at end → Linked h z at last rows n end
  kept [] at last n end w k u =
      let e = mark-ends h s last at n end w.1 in
      (mark-kept at w.0 (λ i a b. u i a (omega (arith, e)) refl) (omega (arith, e)), w.1)
  kept (r ∷ rs) at last n end w k u =
      let e = ends r rs at last n end w k u in (
        w.0,
        w.1,
        block-kept at r w.0 w.1 w.2 (header-near r rs at last n end w k u) (omega (arith, e.0)) (dna-near r rs at last n end w k u),
        kept rs w.1 w.0 n end w.3 k (rest-near r rs at last n end w k u),
      )
