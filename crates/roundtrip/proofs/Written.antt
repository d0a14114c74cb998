-- What is promised of the writer and the reader together.
use Rattle.std.specs.Prelude.{Result, Ok, Err, Option, Some, None}
use Prim.Native.Nat.{ℕ, zero, suc, ◌+◌, ◌-◌, ◌/◌, ◌^◌, ◌≤◌, ◌<◌}
use mathlib.Core.Bool.{Bool, true, false}
use mathlib.Core.List.{List, [], ◌∷◌, ◌++◌}
use mathlib.Core.Path.{◌≡◌, refl, sym, ◌∙◌, ap, subst}
use native.Mathlib.Omega.{arith}
use borrow.Author.Tests.{ltb-false, le-ltb}
use lib.Dec.{ltb}
use lib.ListN.{length, get_or, take, drop, length-append}
use lib.Seq.{take_at, drop_at, length-take-le}
use Rattle.octets.specs.declared.Endianness.{Endianness}
use Rattle.octets.specs.Looks.{part}
use Rattle.octets.specs.Paper.{Paper}
use Rattle.octets.specs.Reader.{Outcome, run}
use Rattle.octets.specs.Reader.Outcome.{read}
use Rattle.octets.specs.Tables.{over, written}
use Rattle.octets.proofs.Parts.{part-long}
use Rattle.octets.proofs.Spelling.{bytes_of-spell, spelled-bytes_of}
use Rattle.octets.proofs.Tests.{failed}
use Rattle.dna.specs.declared.dna.DnaCounts.{DnaCounts}
use Rattle.dna.specs.Catalogue.{catalogue, counts_only}
use Rattle.header.specs.Layout.{block_header_length}
use Rattle.header.specs.declared.FileFormat.{FileFormat}
use Rattle.header.specs.declared.FileFormat.TheVariants.{Legacy}
use Rattle.header.specs.declared.Header.{Header}
use Rattle.header.specs.Header.{HeaderBytes, header_length, header_bytes, header_of}
use Rattle.header.specs.HeaderOut.{Digits, header_out, header_fits}
use Rattle.header.proofs.Headers.{header_length_lem}
use Rattle.header.proofs.HeadersAgain.{LegacyRead, legacy-fits, legacy-read, legacy-again}
use Rattle.header.proofs.HeadersOut.{header_out-length}
use Rattle.block.specs.declared.Row.{Row}
use Rattle.block.specs.Rows.{per_row, row_spelt, rows_spelt, row_table, none, payload_of}
use Rattle.block.proofs.Tables.{table-length, rows-many, row_at, all-rows}
use Rattle.blend.specs.declared.blend.RawBlend.{RawBlend}
use Rattle.blend.specs.declared.blend.BlendError.{BlendError}
use Rattle.blend.specs.Calls.{«blend::blend»}
use Rattle.blend.specs.Chain.{File, file_by, answer_for, read_as, rows_of, table_after, paper_blend}
use Rattle.blend.proofs.Lossless.{whole-blend}
use Rattle.writable.specs.declared.writable.WritableError.{WritableError}
use Rattle.writable.specs.Writable.{needed_of}
use Rattle.writable.proofs.Accepted.{RowTaken, AllTaken, Accepts, accepts, accepted}
use Rattle.writable.proofs.Answers.{needed_rows, needed_there}
use Rattle.writer.specs.declared.writer.WriteError.{WriteError}
use Rattle.writer.specs.Calls.{«writer::write»}
use Rattle.writer.specs.Writer.{file_out, answer_in, output_after}
use Rattle.writer.proofs.Files.{taken-inside, file_out-length}
use Rattle.demands.specs.Answers.{rows_in}
use Rattle.demands.specs.Cover.{Covered, header_part}
use Rattle.demands.proofs.Accepted.{answer_of, Accepted}
use Rattle.demands.proofs.Accepted as answers
use Rattle.demands.proofs.Cover.{covered}
use Rattle.demands.proofs.Files.{filed, first-inside}
use Rattle.demands.proofs.HeaderTrees.{header_tree}
use Rattle.roundtrip.specs.Placed.{placed}
use Rattle.roundtrip.specs.Written.{Slice, NumbersWritten, RestKept, ReadBack, WrittenIsRead, WrittenIsCovered, WrittenAs, ReadAndWritten, WrittenAgain}
use Rattle.roundtrip.proofs.Again.{same_bytes, writable}
use Rattle.roundtrip.proofs.Blocks.{SameParts}
use Rattle.roundtrip.proofs.Codes.{dna-found}
use Rattle.roundtrip.proofs.Files.{as_file, in_parts, file-found, parts-shown}

-- where bytes were written, they were needed, and there was room for them
wrote : (x : Result ℕ WritableError) (room n : ℕ) → Ok n ≡ answer_in x room → (Ok n ≡ x) × (n ≤ room)
wrote (Ok m) room n e = go (ltb room m) refl e
  where
    go : (b : Bool) → ltb room m ≡ b → Ok n ≡ (elim b as (λ c. (Result ℕ WriteError)) [ true ↦ Err (WriteError.TooShort m) | false ↦ Ok m ]) → (◌≡◌ {A = Result ℕ WritableError} (Ok n) (Ok m)) × (n ≤ room)
    go true q w =
        let y : ◌≡◌ {A = ℕ} 0 1 = cc in
        absurd (omega arith)
    go false q w =
        let x : n ≡ m = cc in
        (ap Ok x, omega (arith, x, ltb-false room m q))
wrote (Err u) room n e =
    let y : ◌≡◌ {A = ℕ} 0 1 = cc in
    absurd (omega arith)

-- What the reader answers of a file that the rules read, with a table that has room.
module _ (o : Outcome File) (f : File) (first : ℕ) (e : o ≡ read f first) (n : DnaCounts) (end : ℕ) (l : f.chain.last ≡ read n end)
    (u u' : List ℕ) (fits : length f.chain.rows ≤ length u / per_row) (a : Result RawBlend BlendError) (p : paper_blend a ≡ read_as o (length u / per_row)) (q : u' ≡ table_after o u) where
  answered : read_as o (length u / per_row) ≡ paper_blend (Ok (answer_of f n end))
  unfolding read_as
  answered =
      ap (λ (x : Outcome File). read_as x (length u / per_row)) e ∙ ap (answer_for f.header (length f.chain.rows) (length u / per_row)) l ∙ failed _ _ (le-ltb _ _ fits)

  answer-is : a ≡ Ok (answer_of f n end)
  answer-is = whole-blend a (Ok (answer_of f n end)) (p ∙ answered)

  table_is : u' ≡ over (row_table f.chain.rows) u
  table_is = q ∙ ap (λ (x : Paper). written x (row_table (rows_of o)) u) answered ∙ ap (λ (x : Outcome File). over (row_table (rows_of x)) u) e

placed-many : (h : Header) (at : ℕ) (rs : List Row) → length (placed h at rs) ≡ length rs
unfolding placed
placed-many h at [] = refl
placed-many h at (r ∷ rs) = ap suc (placed-many h (at + (block_header_length h.format h.pointer_size + r.len)) rs)

same_at : (h : Header) (s z ys : List ℕ) (d : DnaCounts) (rs qs : List Row) (i : ℕ) → SameParts h s z ys d rs qs → i < length rs → length qs ≡ length rs
    → payload_of z (get_or qs i none) ≡ payload_of s (get_or rs i none)
same_at h s z ys d [] qs i w k l = absurd (omega arith)
same_at h s z ys d (r ∷ rs) [] i w k l = absurd (omega arith)
same_at h s z ys d (r ∷ rs) (q ∷ qs) zero w k l = w.0
same_at h s z ys d (r ∷ rs) (q ∷ qs) (suc i) w k l = same_at h s z ys d rs qs i w.1 (omega arith) (omega arith)

-- the last row is the one that is taken last
last_row : (e : Endianness) (s : List ℕ) (r : Row) (rs : List Row) (last l : Option DnaCounts) → AllTaken e s (r ∷ rs) last l → RowTaken e s (get_or (r ∷ rs) (length rs) none) l
last_row e s r [] last l t = subst (RowTaken e s r) t.2 t.1
last_row e s r (q ∷ qs) last l t = last_row e s q qs t.0 l t.2

last_taken : (e : Endianness) (s : List ℕ) (rs : List Row) (d : DnaCounts) → AllTaken e s rs None (Some d) → RowTaken e s (get_or rs (length rs - 1) none) (Some d)
last_taken e s [] d t =
    let y : ◌≡◌ {A = ℕ} 0 1 = cc in
    absurd (omega arith)
last_taken e s (r ∷ rs) d t =
    let i : suc (length rs) - 1 ≡ length rs = omega arith in
    subst (λ (k : ℕ). RowTaken e s (get_or (r ∷ rs) k none) (Some d)) (sym i) (last_row e s r rs None (Some d) t)

-- there is a row
rows-some : (h : Header) (s : List ℕ) (rs : List Row) (n : ℕ) → Accepts h s rs n → 0 < length rs
rows-some h s [] n a =
    let z = a.taken in
    let y : ◌≡◌ {A = ℕ} 0 1 = cc in
    absurd (omega arith)
rows-some h s (r ∷ rs) n a = omega arith

-- a row of a table, by its number
row_of : (t : List ℕ) (rows i : ℕ) → i < rows → get_or (rows_in t rows) i none ≡ row_spelt t i
row_of t rows i k =
    let z : 0 + i ≡ i = omega arith in
    row_at t rows 0 i k ∙ ap (row_spelt t) z

-- A file that was written.
module _ (h : Header) (t : List ℕ) (rows : ℕ) (s out out' : List ℕ) (n : ℕ) (w : «writer::write» h t rows s out (Ok n) out') where
  abbrev rs : List Row
  rs = rows_in t rows

  abbrev ys : List ℕ
  ys = drop (length (file_out h s rs)) out

  abbrev first : ℕ
  first = header_length h.format

  can : Accepts h s rs n
  can =
      let need = wrote (needed_of h t rows s) (length out) n w.0 in
      accepts h s rs n (sym (needed_rows h t rows s (needed_there h t rows s n need.0)) ∙ sym need.0)

  found : file_by header_bytes out' ≡ read (as_file h s rs n can ys) first
  found = ap (file_by header_bytes) w.1 ∙ file-found h s rs n can ys

  is-covered : Covered header_bytes out' h (placed h first rs) n
  is-covered = covered header_bytes header_tree out' (as_file h s rs n can ys) first can.counts n found refl

  many : length (placed h first rs) ≡ rows
  many = placed-many h first rs ∙ rows-many t rows 0

  header-first : header_out h ≡ header_part h out'
  header-first = sym (ap (take first) (w.1 ∙ in_parts h s rs n can ys) ∙ take_at (header_out h) _ first (header_out-length h))

  module _ (u u' : List ℕ) (room : rows ≤ length u / per_row) (a : Result RawBlend BlendError) (c : «blend::blend» out' u a u') where
    fits : length (placed h first rs) ≤ length u / per_row
    fits = rw many room

    rows_are : rows_in u' rows ≡ placed h first rs
    rows_are =
        let z = table_is (file_by header_bytes out') (as_file h s rs n can ys) first found can.counts n refl u u' fits a c.0 c.1 in
        ap (λ (x : List ℕ). rows_spelt x rows 0) z ∙ ap (λ (k : ℕ). rows_spelt (over (row_table (placed h first rs)) u) k 0) (sym many) ∙ all-rows (placed h first rs) _

    shown : (i : ℕ) → i < rows → payload_of out' (row_spelt u' i) ≡ payload_of s (row_spelt t i)
    shown i k =
        let p = same_at h s (file_out h s rs ++ ys) ys can.counts rs (placed h first rs) i (parts-shown h s rs n can ys) (omega (arith, rows-many t rows 0)) (placed-many h first rs) in
        ap (payload_of out') (sym (row_of u' rows i k) ∙ ap (λ (l : List Row). get_or l i none) rows_are) ∙ ap (λ (z : List ℕ). payload_of z (get_or (placed h first rs) i none)) w.1 ∙ p
        ∙ ap (payload_of s) (row_of t rows i k)

    pub read_back : ReadBack h t rows s n out' a u'
    read_back =
        let some = last_taken h.endianness s rs can.counts can.taken in
        let k : length rs - 1 ≡ rows - 1 = ap (λ (m : ℕ). m - 1) (rows-many t rows 0) in
        record {
          counts = can.counts;
          answer = answer-is (file_by header_bytes out') (as_file h s rs n can ys) first found can.counts n refl u u' fits a c.0 c.1
              ∙ ap (λ (m : ℕ). (Ok (record { header = h; rows = m; end = n; dna = can.counts }))) many;
          table = rows_are;
          payload = shown;
          last = (some.end, dna-found h.endianness _ _ _ can.counts some.end some.found ∙ ap (λ (p : List ℕ). counts_only (run (catalogue h.endianness) p 0)) (ap (payload_of s) (ap (λ (m : ℕ). get_or rs m none) k ∙ row_of t rows (rows - 1) (omega (arith, rows-some h s rs n can, rows-many t rows 0)))));
        }

pub written-is-read : WrittenIsRead
written-is-read h t rows s out out' n w u u' room a c = read_back h t rows s out out' n w u u' room a c

pub written-is-covered : WrittenIsCovered
written-is-covered = is-covered

pub rest-kept : RestKept
rest-kept h t rows s out out' n w =
    let rs = rows_in t rows in
    let a = can h t rows s out out' n w in
    let long : length (file_out h s rs) ≡ n = file_out-length h s rs (taken-inside h.endianness s rs None (Some a.counts) a.taken) ∙ sym a.long in
    ((wrote (needed_of h t rows s) (length out) n w.0).1, ap (take n) w.1 ∙ take_at (file_out h s rs) _ n long, ap (drop n) w.1 ∙ drop_at (file_out h s rs) _ n long ∙ ap (λ (k : ℕ). drop k out) long)

pub numbers-written : NumbersWritten
numbers-written = record { back = bytes_of-spell; again = spelled-bytes_of }

-- A file that was read, and whose header has room and is written as it was.
module _ (s t t' : List ℕ) (b : RawBlend) (slice : Slice s) (c : «blend::blend» s t (Ok b) t') (fits : header_fits b.header ≡ true)
    (same : header_out b.header ≡ header_part b.header s) where
  acc : Accepted (file_by header_bytes s) t t' b
  acc = answers.accepted (file_by header_bytes s) t t' b c.0 c.1

  header_is : b.header ≡ acc.file.header
  header_is = ap (λ (x : RawBlend). x.header) acc.answer

  file-same : header_out acc.file.header ≡ header_part acc.file.header s
  file-same = subst (λ (h : Header). header_out h ≡ header_part h s) header_is same

  file-fits : header_fits acc.file.header ≡ true
  file-fits = subst (λ (h : Header). header_fits h ≡ true) header_is fits

  inside : b.end ≤ length s
  inside = (covered header_bytes header_tree s acc.file acc.first b.dna b.end acc.found acc.last).inside

  small : b.end ≤ 2 ^ 64 - 1
  small = omega (arith, inside, slice.1)

  can-again : Accepts b.header s (rows_in t' b.rows) b.end
  can-again =
      subst (λ (h : Header). Accepts h s (rows_in t' b.rows) b.end) (sym header_is)
      (subst (λ (l : List Row). Accepts acc.file.header s l b.end) (sym acc.rows)
      (writable s slice.0 acc.file acc.first b.dna b.end acc.found acc.last small file-fits file-same))

  bytes-again : file_out b.header s (rows_in t' b.rows) ≡ take b.end s
  bytes-again =
      ap (λ (h : Header). file_out h s (rows_in t' b.rows)) header_is ∙ ap (file_out acc.file.header s) acc.rows
      ∙ same_bytes s slice.0 acc.file acc.first b.dna b.end acc.found acc.last small file-fits file-same

  there : b.rows ≤ length t' / per_row
  there =
      let rs = acc.file.chain.rows in
      let m : b.rows ≡ length rs = ap (λ (x : RawBlend). x.rows) acc.answer in
      let k : length t' ≡ length (row_table rs) + length (drop (length (row_table rs)) t) = ap length acc.table ∙ length-append (row_table rs) (drop (length (row_table rs)) t) in
      omega (arith, m, k, table-length rs)

  pub written_as : WrittenAs b.header b.rows t' b.end s
  written_as out out' a room w =
      let need : needed_of b.header t' b.rows s ≡ (Ok b.end) = needed_rows b.header t' b.rows s there ∙ accepted b.header s (rows_in t' b.rows) b.end can-again in
      let ans : a ≡ (Ok b.end) = w.0 ∙ ap (λ (x : Result ℕ WritableError). answer_in x (length out)) need ∙ failed _ _ (le-ltb _ _ room) in
      let long : length (file_out b.header s (rows_in t' b.rows)) ≡ b.end = ap length bytes-again ∙ length-take-le b.end s inside in
      (ans, ap (take b.end) (w.1 ∙ ap (λ (x : Result ℕ WriteError). output_after x b.header t' b.rows s out) ans) ∙ take_at _ _ b.end long ∙ bytes-again)

pub written-again : WrittenAgain
written-again h t rows s out out' n slice w u u' b c =
    let a = answers.accepted (file_by header_bytes out') u u' b c.0 c.1 in
    let same : read (as_file h s (rows_in t rows) n (can h t rows s out out' n w) (drop (length (file_out h s (rows_in t rows))) out)) (header_length h.format) ≡ read a.file a.first =
    sym (found h t rows s out out' n w) ∙ a.found in
    let file : a.file ≡ as_file h s (rows_in t rows) n (can h t rows s out out' n w) (drop (length (file_out h s (rows_in t rows))) out) = cc in
    let e : h ≡ b.header = sym (ap (λ (x : RawBlend). x.header) a.answer ∙ ap (λ (f : File). f.header) file) in
    written_as out' u u' b slice c (subst (λ (k : Header). header_fits k ≡ true) e (can h t rows s out out' n w).header)
    (subst (λ (k : Header). header_out k ≡ header_part k out') e (header-first h t rows s out out' n w))

-- A Legacy file whose version bytes are digits: its header has room, and is written as it was.
module _ (s : List ℕ) (hb : HeaderBytes) (first : ℕ) (g : run header_bytes s 0 ≡ read hb first) (f : hb.format ≡ Legacy) (inside : first ≤ length s) (d : Digits (part s 9 3)) where
  abbrev legacy : HeaderBytes
  legacy = record { format = Legacy; pointer = hb.pointer; order = hb.order; unchecked = hb.unchecked; version = hb.version }

  is-legacy : hb ≡ legacy
  is-legacy = ap (λ (x : FileFormat). record { format = x; pointer = hb.pointer; order = hb.order; unchecked = hb.unchecked; version = hb.version }) f

  read_so : LegacyRead s legacy
  read_so = subst (LegacyRead s) is-legacy (legacy-read s hb first g f)

  twelve : 12 ≤ length s
  twelve = omega (arith, inside, header_length_lem s hb first g ∙ ap header_length f)

  three : length hb.version ≡ 3
  three = ap length (sym read_so.version) ∙ part-long s 9 3 (omega (arith, twelve))

  legacy-room : header_fits (header_of hb) ≡ true
  legacy-room = ap (λ (x : HeaderBytes). header_fits (header_of x)) is-legacy ∙ legacy-fits hb.version three

  legacy-same : header_out (header_of hb) ≡ header_part (header_of hb) s
  legacy-same =
      ap (λ (x : HeaderBytes). header_out (header_of x)) is-legacy
      ∙ legacy-again s hb.pointer hb.order hb.unchecked hb.version read_so twelve (subst Digits read_so.version d)
      ∙ ap (λ (x : HeaderBytes). header_part (header_of x) s) (sym is-legacy)

pub read_and_written : ReadAndWritten
read_and_written s t t' b slice c legacy d =
    let a = answers.accepted (file_by header_bytes s) t t' b c.0 c.1 in
    let w = filed header_bytes s a.file a.first a.found in
    let e : header_of w.bytes ≡ b.header = sym (ap (λ (x : RawBlend). x.header) a.answer ∙ w.value) in
    let f : w.bytes.format ≡ Legacy = ap (λ (h : Header). h.format) e ∙ legacy in
    let i = first-inside header_bytes s a.file a.first w in
    written_as s t t' b slice c (subst (λ (h : Header). header_fits h ≡ true) e (legacy-room s w.bytes a.first w.found f i d))
    (subst (λ (h : Header). header_out h ≡ header_part h s) e (legacy-same s w.bytes a.first w.found f i d))
