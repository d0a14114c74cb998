-- One object's bytes cannot alter another's: the demand's proof, for any tree that reads a header as it should, and for the one that the code follows.
use Rattle.std.specs.Prelude.{Result, Ok, Err, Option, None}
use Prim.Native.Nat.{ℕ, zero, suc, ◌+◌, ◌/◌, ◌≤◌, ◌<◌}
use mathlib.Core.Bool.{Bool, true, false, ◌&&◌, ◌||◌}
use mathlib.Core.List.{List, [], ◌∷◌}
use mathlib.Core.Path.{◌≡◌, refl, sym, ◌∙◌, ap, subst}
use native.Mathlib.Omega.{arith}
use borrow.Author.Tests.{le-leb, lt-ltb, eqb-true, eqb-false}
use lib.Dec.{eqb}
use lib.ListN.{length, get_or, take, drop, length-append, length-drop}
use Rattle.octets.specs.declared.Endianness.{Endianness}
use Rattle.octets.specs.Paper.{Paper}
use Rattle.octets.specs.Paper.Paper.{accepts}
use Rattle.octets.specs.Reader.{Reader, Outcome, run, room}
use Rattle.octets.specs.Reader.Outcome.{read}
use Rattle.octets.specs.Tables.{over, written}
use Rattle.octets.proofs.Written.{wrote, written_over}
use Rattle.octets.proofs.Tests.{held}
use Rattle.dna.specs.declared.dna.DnaCounts.{DnaCounts}
use Rattle.dna.specs.Catalogue.{Dna, rooms, catalogue, read_as as catalogueAs, rows_of as catalogueRows, pairs, type_rows, struct_rows, field_rows}
use Rattle.dna.proofs.Lossless.{whole_tables}
use Rattle.header.specs.declared.Header.{Header}
use Rattle.block.specs.declared.Row.{Row}
use Rattle.blend.specs.declared.blend.RawBlend.{RawBlend}
use Rattle.blend.specs.declared.blend.BlendError.{BlendError}
use Rattle.block.specs.Kinds.{code_number, kind_of}
use Rattle.blend.specs.Blocks.{is_dna}
use Rattle.block.specs.Rows.{payload_of, Column, per_row, row_table, cell, none, row_spelt}
use Rattle.blend.specs.Calls.{Answers}
use Rattle.blend.specs.Chain.{Chain, File, chain_from, on_header, file_by, read_as, table_after}
use Rattle.header.specs.Header.{HeaderBytes, header_bytes, valued}
use Rattle.runtime.specs.Views.{is_there, view_as, part_as}
use Rattle.block.proofs.Tables.{table-length, row_at}
use Rattle.blend.proofs.Chains.{block_lies}
use Rattle.blend.proofs.Lossless.{whole-blend}
use Rattle.demands.specs.Answers.{HeaderTree, rows_in}
use Rattle.demands.specs.Unaltered.{NoOtherObject, NoOtherObjectBy, is_free, Alike, agree, WroteSame, SameCatalogue, Stays}
use Rattle.octets.specs.Looks.{Untouched}
use Rattle.demands.proofs.Accepted.{Accepted, accepted}
use Rattle.demands.proofs.Files.{Filed, filed, file-linked, first-inside}
use Rattle.demands.proofs.HeaderTrees.{header_tree}
use Rattle.demands.proofs.Indexes.{same_index}
use Rattle.demands.proofs.Kept.{none_before, Near, kept, dna-near, rest-near}
use Rattle.blend.proofs.Links.{Linked, chained, linked-ends}
use Rattle.octets.proofs.Own.{window}

-- a row by its number: its payload lies before the end, and a DNA1's is the same in both files
module _ (h : Header) (s : List ℕ) where
  pub payload-before : (rows : List Row) (at : ℕ) (last : Option DnaCounts) (n : DnaCounts) (end : ℕ) → Linked h s at last rows n end → (i : ℕ) → i < length rows
      → (get_or rows i none).payload + (get_or rows i none).len ≤ end
  payload-before [] at last n end w i k = absurd (omega arith)
  payload-before (r ∷ rs) at last n end w zero k =
      omega (arith, (block_lies h s at r w.0 w.1 w.2).payload, (linked-ends h s rs w.1 w.0 n end w.3).0)
  payload-before (r ∷ rs) at last n end w (suc i) k = payload-before rs w.1 w.0 n end w.3 i (omega arith)

  pub dna-kept : (z : List ℕ) (rows : List Row) (at : ℕ) (last : Option DnaCounts) (n : DnaCounts) (end : ℕ) → Linked h s at last rows n end → end ≤ length z → Near h s z rows at end
      → (i : ℕ) → i < length rows → is_dna (kind_of (get_or rows i none).code) ≡ true → payload_of z (get_or rows i none) ≡ payload_of s (get_or rows i none)
  dna-kept z [] at last n end w k u i m d = absurd (omega arith)
  dna-kept z (r ∷ rs) at last n end w k u zero m d = dna-near h s z r rs at last n end w k u d
  dna-kept z (r ∷ rs) at last n end w k u (suc i) m d = dna-kept z rs w.1 w.0 n end w.3 k (rest-near h s z r rs at last n end w k u) i (omega arith) d

-- what a view shows of a row that is there
module _ (s t : List ℕ) (row : ℕ) (k : row < length t / per_row) (m : (row_spelt t row).payload + (row_spelt t row).len ≤ length s) where
  there : is_there s t row ≡ true
  there = ap (λ (b : Bool). b && room s (cell t row Column.payload) (cell t row Column.len)) (lt-ltb _ _ k) ∙ le-leb _ _ m

  view-there : view_as s t row ≡ accepts 0 []
  unfolding view_as
  view-there = held _ _ there

  part-there : part_as s t row ≡ payload_of s (row_spelt t row)
  unfolding part_as
  part-there = held _ _ there

-- the same payload, the same catalogue
same-catalogue : (e : Endianness) (p q : List ℕ) → q ≡ p → SameCatalogue e p q
same-catalogue e p q same n t s f n' t' s' f' m u v g m' u' v' g' a c em eu ev eg x y =
    let o = run (catalogue e) p 0 in
    let r = rooms (length n) (length t) (length s) (length f) in
    let er : rooms (length m) (length u) (length v) (length g) ≡ r = rw (em, eu, ev, eg) refl in
    let eo : run (catalogue e) q 0 ≡ o = ap (λ (l : List ℕ). run (catalogue e) l 0) same in
    let told : catalogueAs (run (catalogue e) q 0) (rooms (length m) (length u) (length v) (length g)) ≡ catalogueAs o r = ap (λ (w : Outcome Dna). catalogueAs w (rooms (length m) (length u) (length v) (length g))) eo ∙ ap (catalogueAs o) er in
    let both : (rows : Dna → List ℕ) (l l' k k' : List ℕ) → l' ≡ written (catalogueAs o r) (catalogueRows rows o) l
    → k' ≡ written (catalogueAs (run (catalogue e) q 0) (rooms (length m) (length u) (length v) (length g))) (catalogueRows rows (run (catalogue e) q 0)) k → WroteSame l l' k k' =
    λ rows l l' k k' el ek. (
      wrote (catalogueAs o r) (catalogueRows rows o),
      el ∙ written_over _ _ l,
      ek ∙ ap (λ (w : Paper). written w (catalogueRows rows (run (catalogue e) q 0)) k) told ∙ ap (λ (w : Outcome Dna). written (catalogueAs o r) (catalogueRows rows w) k) eo ∙ written_over _ _ k,
    ) in (
      whole_tables c a (y.answer ∙ told ∙ sym x.answer),
      both (λ d. pairs d.names) n n' m m' x.in_names y.in_names,
      both (λ d. type_rows d.types d.sizes) t t' u u' x.in_types y.in_types,
      both (λ d. struct_rows 0 d.structs) s s' v v' x.in_structs y.in_structs,
      both (λ d. field_rows d.structs) f f' g g' x.in_fields y.in_fields,
    )

module _ (header : Reader HeaderBytes) (tree : HeaderTree header) (s z : List ℕ) where
  -- of a file that the rules read
  module _ (f : File) (first : ℕ) (n : DnaCounts) (end : ℕ) (e : file_by header s ≡ read f first) (l : f.chain.last ≡ read n end) (w : Alike f.chain.rows end s z) where
    found : Filed header s f first
    found = filed header s f first e

    pub links : Linked f.header s first None f.chain.rows n end
    links = file-linked header s f first found n end l

    pub near : Near f.header s z f.chain.rows first end
    near i a b c = w.bytes i b c

    first-near : Untouched s z 0 first
    first-near i a b =
        w.bytes i (omega (arith, (linked-ends f.header s f.chain.rows first None n end links).0)) (none_before f.header s f.chain.rows first None n end links i b)

    pub header-kept : valued (run header z 0) ≡ read f.header first
    header-kept =
        let k : first ≤ length z = omega (arith, (linked-ends f.header s f.chain.rows first None n end links).0, w.long) in
        let p : take first z ≡ take first s = window s z 0 first (omega (arith, first-inside header s f first found)) (omega arith) (λ i a b. first-near i a (omega arith)) in
        ap valued (tree.own s z found.bytes first found.found p) ∙ ap (λ (h : Header). read h first) (sym found.value)

    chain-kept : chain_from f.header z first ≡ f.chain
    unfolding chain_from
    chain-kept =
        let k : first ≤ length z = omega (arith, (linked-ends f.header s f.chain.rows first None n end links).0, w.long) in
        chained f.header z f.chain.rows (suc (length z)) first None n end
        (kept f.header s z f.chain.rows first None n end links w.long near) (omega arith) k
        ∙ ap (λ (o : Outcome DnaCounts). record { rows = f.chain.rows; last = o }) (sym l)

    pub file-kept : file_by header z ≡ read f first
    file-kept = ap (on_header z) header-kept ∙ ap (λ (c : Chain). read (record { header = f.header; chain = c }) first) chain-kept

-- a table that a call has filled from the front is as long as it was
over-long : (new t : List ℕ) → length new ≤ length t → length (over new t) ≡ length t
over-long new t k = length-append new (drop (length new) t) ∙ omega (arith, length-drop (length new) t)

table_kept : (o : Outcome File) (t t' : List ℕ) (b : RawBlend) → Accepted o t t' b → length t' ≡ length t
table_kept o t t' b a =
    let rs = a.file.chain.rows in
    ap length a.table ∙ over-long (row_table rs) t (omega (arith, table-length rs, a.fits))

-- a row of the table, by its number
module _ (o : Outcome File) (t t' : List ℕ) (b : RawBlend) (a : Accepted o t t' b) (row : ℕ) (k : row < b.rows) where
  counted : length a.file.chain.rows ≡ b.rows
  counted = ap (λ (x : RawBlend). x.rows) (sym a.answer)

  row-there : row < length t' / per_row
  row-there = omega (arith, table_kept o t t' b a, a.fits, counted)

  row_spelt_lem : get_or a.file.chain.rows row none ≡ row_spelt t' row
  row_spelt_lem =
      let z : 0 + row ≡ row = omega arith in
      ap (λ (rs : List Row). get_or rs row none) (sym a.rows) ∙ row_at t' b.rows 0 row k ∙ ap (row_spelt t') z

module _ (header : Reader HeaderBytes) (tree : HeaderTree header) (s t t' : List ℕ) (b : RawBlend) (w : Answers (file_by header) s t (Ok b) t')
    (z u u' : List ℕ) (c : Result RawBlend BlendError) (x : Answers (file_by header) z u c u') (long : length u ≡ length t) (alike : Alike (rows_in t' b.rows) b.end s z) where
  one : Accepted (file_by header s) t t' b
  one = accepted (file_by header s) t t' b w.0 w.1

  abbrev rows : List Row
  rows = one.file.chain.rows

  like : Alike rows b.end s z
  like = subst (λ (rs : List Row). Alike rs b.end s z) one.rows alike

  same : file_by header z ≡ file_by header s
  same = file-kept header tree s z one.file one.first b.dna b.end one.found one.last like ∙ sym one.found

  answer : c ≡ Ok b
  answer =
      whole-blend c (Ok b)
      (x.0 ∙ ap (λ (o : Outcome File). read_as o (length u / per_row)) same ∙ ap (λ (n : ℕ). read_as (file_by header s) (n / per_row)) long ∙ sym w.0)

  two : Accepted (file_by header s) u u' b
  two =
      accepted (file_by header s) u u' b (w.0 ∙ ap (λ (n : ℕ). read_as (file_by header s) (n / per_row)) (sym long)) (x.1 ∙ ap (λ (o : Outcome File). table_after o u) same)

  files : two.file ≡ one.file
  files =
      let k : read two.file two.first ≡ read one.file one.first = sym two.found ∙ one.found in
      cc

  module _ (row : ℕ) (k : row < b.rows) where
    spelt : row_spelt u' row ≡ row_spelt t' row
    spelt =
        sym (row_spelt_lem (file_by header s) u u' b two row k) ∙ ap (λ (f : File). get_or f.chain.rows row none) files ∙ row_spelt_lem (file_by header s) t t' b one row k

    linked : Linked one.file.header s one.first None rows b.dna b.end
    linked = links header tree s z one.file one.first b.dna b.end one.found one.last like

    before : (row_spelt t' row).payload + (row_spelt t' row).len ≤ b.end
    before =
        subst (λ (r : Row). r.payload + r.len ≤ b.end) (row_spelt_lem (file_by header s) t t' b one row k)
        (payload-before one.file.header s rows one.first None b.dna b.end linked row (omega (arith, counted (file_by header s) t t' b one row k)))

    in-first : (row_spelt t' row).payload + (row_spelt t' row).len ≤ length s
    in-first = omega (arith, before, (linked-ends one.file.header s rows one.first None b.dna b.end linked).1)

    in-second : (row_spelt u' row).payload + (row_spelt u' row).len ≤ length z
    in-second = subst (λ (r : Row). r.payload + r.len ≤ length z) (sym spelt) (omega (arith, before, alike.long))

    shown : payload_of z (row_spelt t' row) ≡ payload_of s (row_spelt t' row) → part_as z u' row ≡ part_as s t' row
    shown e =
        part-there z u' row (row-there (file_by header s) u u' b two row k) in-second ∙ ap (payload_of z) spelt ∙ e
        ∙ sym (part-there s t' row (row-there (file_by header s) t t' b one row k) in-first)

    views : (view_as s t' row ≡ accepts 0 []) × (view_as z u' row ≡ accepts 0 []) × (Untouched s z (cell t' row Column.payload) (cell t' row Column.payload + cell t' row Column.len) → part_as z u' row ≡ part_as s t' row)
    views = (
      view-there s t' row (row-there (file_by header s) t t' b one row k) in-first,
      view-there z u' row (row-there (file_by header s) u u' b two row k) in-second,
      λ v. shown (window s z (cell t' row Column.payload) (cell t' row Column.len) in-first (omega (arith, before, alike.long)) v),
    )

    dna-shown : cell t' row Column.code ≡ code_number "DNA1" → part_as z u' row ≡ part_as s t' row
    unfolding kind_of
    dna-shown d =
        let e = row_spelt_lem (file_by header s) t t' b one row k in
        let q : is_dna (kind_of (get_or rows row none).code) ≡ true = ap (λ (r : Row). is_dna (kind_of r.code)) e ∙ ap (λ (n : ℕ). is_dna (kind_of n)) d in
        shown
        (subst (λ (r : Row). payload_of z r ≡ payload_of s r) e
        (dna-kept one.file.header s z rows one.first None b.dna b.end linked like.long
        (near header tree s z one.file one.first b.dna b.end one.found one.last like) row (omega (arith, counted (file_by header s) t t' b one row k)) q))

  tables_long : length u' ≡ length t'
  tables_long = table_kept (file_by header s) u u' b two ∙ long ∙ sym (table_kept (file_by header s) t t' b one)

  stays : Stays s t t' b.rows b.header.endianness z u u'
  stays =
      record {
        rows = (
          two.rows ∙ ap (λ (f : File). f.chain.rows) files ∙ sym one.rows,
          (row_table rows, one.table, two.table ∙ ap (λ (f : File). over (row_table f.chain.rows) u) files),
        );
        views = views;
        catalogues = λ row k d. (dna-shown row k d, same-catalogue b.header.endianness (part_as s t' row) (part_as z u' row) (dna-shown row k d));
        index = λ m buckets k. same_index t' u' m buckets tables_long (λ i j. ap (λ (r : Row). r.address) (spelt i (omega arith)));
      }

pub unaltered : NoOtherObjectBy
unaltered header tree s t t' (Ok b) w z u u' c x =
    λ long alike. (answer header tree s t t' b w z u u' c x long alike, stays header tree s t t' b w z u u' c x long alike)
unaltered header tree s t t' (Err (BlendError.Fault y)) w z u u' c x = tt
unaltered header tree s t t' (Err (BlendError.TableTooShort n)) w z u u' c x = tt

pub no_other_object : NoOtherObject
no_other_object = unaltered header_bytes header_tree

-- bytes that the test finds alike are alike
pub agree-near : (rows : List Row) (s z : List ℕ) (at n : ℕ) → agree rows s z at n ≡ true → (i : ℕ) → at ≤ i → i < at + n → is_free rows i ≡ false → get_or z i 0 ≡ get_or s i 0
unfolding agree
agree-near rows s z at zero h i k m f = absurd (omega arith)
agree-near rows s z at (suc n) h i k m f = go (eqb i at) refl (agree-near rows s z (at + 1) n)
  where
    split : (b c d : Bool) → ((b || c) && d) ≡ true → (b ≡ false → c ≡ true) × (d ≡ true)
    split true c d e = (λ z. cc, e)
    split false true d e = (λ z. refl, e)
    split false false d e = (λ z. e, cc)

    here : i ≡ at → get_or z i 0 ≡ get_or s i 0
    here e = rw e (eqb-true _ _ ((split (is_free rows at) _ _ h).0 (rw (← e) f)))

    go : (b : Bool) → eqb i at ≡ b
        → (agree rows s z (at + 1) n ≡ true → (j : ℕ) → at + 1 ≤ j → j < at + 1 + n → is_free rows j ≡ false → get_or z j 0 ≡ get_or s j 0) → get_or z i 0 ≡ get_or s i 0
    go true e g = here (eqb-true _ _ e)
    go false e g =
        let ne : (i ≡ at → ⊥) = eqb-false i at e in
        g (split (is_free rows at) _ _ h).1 i (omega (arith, ne)) (omega arith) f

pub agree-alike : (rows : List Row) (end : ℕ) (s z : List ℕ) → end ≤ length z → agree rows s z 0 end ≡ true → Alike rows end s z
agree-alike rows end s z k h = record { long = k; bytes = λ i m f. agree-near rows s z 0 end h i (omega arith) (omega arith) f }
