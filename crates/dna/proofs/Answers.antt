-- From the pass that counts and the four that fill to what `dna` answers and writes.
use Prim.Native.Nat.{ℕ, ◌+◌, ◌*◌, ◌≤◌, ◌<◌}
use mathlib.Core.List.{List, [], ◌∷◌}
use mathlib.Core.Path.{◌≡◌, refl, sym, ◌∙◌, ap}
use native.Mathlib.Omega.{arith}
use borrow.Author.Tests.{lt-ltb, le-ltb}
use lib.ListN.{length, length-append}
use Rattle.std.specs.Prelude.{Ok, Err}
use Rattle.octets.specs.declared.Endianness.{Endianness}
use Rattle.octets.specs.declared.Fault.{Fault}
use Rattle.octets.specs.Helpers.{put}
use Rattle.octets.specs.Paper.Paper.{accepts, refuses}
use Rattle.octets.specs.Reader.{Outcome}
use Rattle.octets.specs.Reader.Outcome.{fault}
use Rattle.octets.specs.Refusals.{catalogue_table_too_short}
use Rattle.octets.specs.Tables.{written}
use Rattle.octets.proofs.Filling.{put-over, accepted-written, refused-kept}
use Rattle.octets.proofs.Tests.{held, failed}
use Rattle.dna.specs.declared.dna.DnaCounts.{DnaCounts}
use Rattle.dna.specs.declared.dna.DnaError.{DnaError}
use Rattle.dna.specs.declared.dna.Layout.{Layout}
use Rattle.dna.specs.Catalogue.{Text, Struct, Dna, Rooms, pairs, type_rows, struct_rows, field_rows, field_count, counts, count_numbers, answer_for, read_as, rows_of, rooms, paper_error, Filled}
use Rattle.dna.specs.Passes.{Whole, AllFit, dna_at, counts_of}

-- the first table that is too short, and none
module _ (n : DnaCounts) (r : Rooms) where
  pub names-short : r.names < n.names → catalogue_table_too_short 1 n.names ≡ answer_for n r
  unfolding answer_for
  names-short h = sym (held _ _ (lt-ltb _ _ h))

  module _ (a : n.names ≤ r.names) where
    pub types-short : r.types < n.types → catalogue_table_too_short 2 n.types ≡ answer_for n r
    unfolding answer_for
    types-short h = sym (failed _ _ (le-ltb _ _ a) ∙ held _ _ (lt-ltb _ _ h))

    module _ (b : n.types ≤ r.types) where
      pub structs-short : r.structs < n.structs → catalogue_table_too_short 3 n.structs ≡ answer_for n r
      unfolding answer_for
      structs-short h = sym (failed _ _ (le-ltb _ _ a) ∙ failed _ _ (le-ltb _ _ b) ∙ held _ _ (lt-ltb _ _ h))

      module _ (c : n.structs ≤ r.structs) where
        pub fields-short : r.fields < n.fields → catalogue_table_too_short 4 n.fields ≡ answer_for n r
        unfolding answer_for
        fields-short h = sym (failed _ _ (le-ltb _ _ a) ∙ failed _ _ (le-ltb _ _ b) ∙ failed _ _ (le-ltb _ _ c) ∙ held _ _ (lt-ltb _ _ h))

  none-short : AllFit n r → accepts 0 (count_numbers n) ≡ answer_for n r
  unfolding answer_for
  none-short f = sym (failed _ _ (le-ltb _ _ f.names_fit) ∙ failed _ _ (le-ltb _ _ f.types_fit) ∙ failed _ _ (le-ltb _ _ f.structs_fit) ∙ failed _ _ (le-ltb _ _ f.fields_fit))

-- how many numbers the rows have
pairs-length : (ps : List (ℕ × ℕ)) → length (pairs ps) ≡ 2 * length ps
unfolding pairs
pairs-length [] = refl
pairs-length (p ∷ ps) = omega (arith, pairs-length ps)

types-length : (ps : List Text) (zs : List ℕ) → length zs ≡ length ps → length (type_rows ps zs) ≡ 3 * length ps
unfolding type_rows
types-length [] zs h = refl
types-length (p ∷ ps) [] h = absurd (omega arith)
types-length (p ∷ ps) (z ∷ zs) h = omega (arith, types-length ps zs (omega arith))

structs-length : (row : ℕ) (ts : List Struct) → length (struct_rows row ts) ≡ 3 * length ts
unfolding struct_rows
structs-length row [] = refl
structs-length row (t ∷ ts) = omega (arith, structs-length (row + length t.1) ts)

fields-length : (ts : List Struct) → length (field_rows ts) ≡ 2 * field_count ts
unfolding field_rows field_count
fields-length [] = refl
fields-length (t ∷ ts) = omega (arith, length-append (pairs t.1) (field_rows ts), pairs-length t.1, fields-length ts)

-- a whole catalogue
module _ (e : Endianness) (s : List ℕ) (l : Layout) (o : Outcome Dna) (w : Whole e s l o) where
  counts_are : counts (dna_at e s l) ≡ counts_of l
  counts_are =
      ap (λ (n : ℕ). record { names = n; types = length (dna_at e s l).types; structs = length (dna_at e s l).structs; fields = field_count (dna_at e s l).structs }) w.names_are
      ∙ ap (λ (n : ℕ). record { names = l.names.count; types = n; structs = length (dna_at e s l).structs; fields = field_count (dna_at e s l).structs }) w.types_are
      ∙ ap (λ (n : ℕ). record { names = l.names.count; types = l.types.count; structs = n; fields = field_count (dna_at e s l).structs }) w.structs_are
      ∙ ap (λ (n : ℕ). record { names = l.names.count; types = l.types.count; structs = l.structs.count; fields = n }) w.fields_are

  pub answered_so : (r : Rooms) → answer_for (counts_of l) r ≡ read_as o r
  unfolding read_as
  answered_so r = sym (ap (λ (q : Outcome Dna). read_as q r) w.found ∙ ap (λ (n : DnaCounts). answer_for n r) counts_are)

  module _ (f : Dna → List ℕ) where
    rows_are : rows_of f o ≡ f (dna_at e s l)
    rows_are = ap (rows_of f) w.found

    pub table_filled : (r : Rooms) (vs t t' : List ℕ) → accepts 0 vs ≡ read_as o r → length (f (dna_at e s l)) ≤ length t → t' ≡ put t 0 (f (dna_at e s l))
        → t' ≡ written (read_as o r) (rows_of f o) t
    table_filled r vs t t' a h p =
        p ∙ put-over t (f (dna_at e s l)) h ∙ accepted-written (read_as o r) 0 vs (f (dna_at e s l)) t a ∙ ap (λ (rows : List ℕ). written (read_as o r) rows t) (sym rows_are)

  -- each table has room for its rows
  module _ (a b c d : ℕ) (f : AllFit (counts_of l) (rooms a b c d)) where
    pub names-room : length (pairs (dna_at e s l).names) ≤ a
    names-room = omega (arith, f.names_fit, pairs-length (dna_at e s l).names, w.names_are)

    pub types-room : length (type_rows (dna_at e s l).types (dna_at e s l).sizes) ≤ b
    types-room = omega (arith, f.types_fit, types-length (dna_at e s l).types (dna_at e s l).sizes (w.sizes_are ∙ sym w.types_are), w.types_are)

    pub structs-room : length (struct_rows 0 (dna_at e s l).structs) ≤ c
    structs-room = omega (arith, f.structs_fit, structs-length 0 (dna_at e s l).structs, w.structs_are)

    pub fields-room : length (field_rows (dna_at e s l).structs) ≤ d
    fields-room = omega (arith, f.fields_fit, fields-length (dna_at e s l).structs, w.fields_are)

-- a reading that does not come to an end, or finds a table too short, keeps every table
pub refused_so : (o : Outcome Dna) (x : DnaError) (k : ℕ) (vs names types structs fields : List ℕ) → paper_error x ≡ refuses k vs
    → paper_error x ≡ read_as o (rooms (length names) (length types) (length structs) (length fields)) → Filled o (Err x) names types structs fields names types structs fields
refused_so o x k vs names types structs fields p a =
    let q = sym p ∙ a in
    record {
      answer = a;
      in_names = refused-kept _ k vs _ names q;
      in_types = refused-kept _ k vs _ types q;
      in_structs = refused-kept _ k vs _ structs q;
      in_fields = refused-kept _ k vs _ fields q;
    }

pub kept_so : (o : Outcome Dna) (x : DnaError) (names types structs fields : List ℕ) → paper_error x ≡ read_as o (rooms (length names) (length types) (length structs) (length fields))
    → Filled o (Err x) names types structs fields names types structs fields
kept_so o (DnaError.Fault f) names types structs fields a = refused_so o (DnaError.Fault f) _ _ names types structs fields refl a
kept_so o (DnaError.TableTooShort which rows) names types structs fields a = refused_so o (DnaError.TableTooShort which rows) _ _ names types structs fields refl a

pub stopped_so : (o : Outcome Dna) (x : Fault) (names types structs fields : List ℕ) → o ≡ fault x → Filled o (Err (DnaError.Fault x)) names types structs fields names types structs fields
unfolding read_as
stopped_so o x names types structs fields h =
    kept_so o (DnaError.Fault x) names types structs fields (sym (ap (λ (q : Outcome Dna). read_as q (rooms (length names) (length types) (length structs) (length fields))) h))

-- one that finds room for all fills every table
module _ (e : Endianness) (s : List ℕ) (l : Layout) (o : Outcome Dna) (w : Whole e s l o) (names types structs fields names' types' structs' fields' : List ℕ)
    (f : AllFit (counts_of l) (rooms (length names) (length types) (length structs) (length fields))) where
  pub filled_so : names' ≡ put names 0 (pairs (dna_at e s l).names) → types' ≡ put types 0 (type_rows (dna_at e s l).types (dna_at e s l).sizes)
      → structs' ≡ put structs 0 (struct_rows 0 (dna_at e s l).structs) → fields' ≡ put fields 0 (field_rows (dna_at e s l).structs)
      → Filled o (Ok (counts_of l)) names types structs fields names' types' structs' fields'
  filled_so a b c d =
      let r = rooms (length names) (length types) (length structs) (length fields) in
      let q = none-short (counts_of l) r f ∙ answered_so e s l o w r in
      record {
        answer = q;
        in_names = table_filled e s l o w (λ x. pairs x.names) r _ names names' q (names-room e s l o w _ _ _ _ f) a;
        in_types = table_filled e s l o w (λ x. type_rows x.types x.sizes) r _ types types' q (types-room e s l o w _ _ _ _ f) b;
        in_structs = table_filled e s l o w (λ x. struct_rows 0 x.structs) r _ structs structs' q (structs-room e s l o w _ _ _ _ f) c;
        in_fields = table_filled e s l o w (λ x. field_rows x.structs) r _ fields fields' q (fields-room e s l o w _ _ _ _ f) d;
      }
