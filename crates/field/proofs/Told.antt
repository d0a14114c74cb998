-- From what the code found of a declarator to what its answers say on paper, and to what the table holds.
use Prim.Native.Char.{code}
use Prim.Native.Nat.{ℕ, zero, suc, ◌+◌, ◌-◌, ◌≤◌, ◌<◌}
use mathlib.Core.Bool.{Bool, true, false}
use mathlib.Core.List.{List, [], ◌++◌}
use mathlib.Core.Option.{Option as Maybe, none, some}
use mathlib.Core.Path.{◌≡◌, refl, sym, ◌∙◌, ap}
use native.Mathlib.Omega.{arith}
use borrow.Author.Tests.{le-ltb, lt-ltb}
use lib.Dec.{leb, eqb}
use lib.ListN.{length, take, drop}
use Rattle.std.specs.Prelude.{Option, Some, None, Ok, Err}
use Rattle.octets.specs.declared.Fault.{Fault}
use Rattle.octets.specs.declared.Refusal.{Refusal}
use Rattle.octets.specs.declared.Refusal.TheVariants.{InvalidArraySize}
use Rattle.octets.specs.Paper.{Paper}
use Rattle.octets.specs.Paper.Paper.{accepts}
use Rattle.octets.specs.Reader.{Outcome, run}
use Rattle.octets.specs.Reader.Outcome.{read, fault}
use Rattle.octets.specs.Refusals.{product_too_large, dimension_table_too_short, paper_refusal}
use Rattle.octets.specs.Tables.{over}
use Rattle.octets.proofs.Filling.{accepted-written, refused-kept}
use Rattle.octets.proofs.Reading.{to_the_end}
use Rattle.octets.proofs.Tests.{held, failed}
use Rattle.field.specs.declared.field.Declarator as records
use Rattle.field.specs.declared.field.FieldInfo.{FieldInfo}
use Rattle.field.specs.declared.field.ArrayParts.{ArrayParts}
use Rattle.field.specs.declared.field.Scan.{Scan}
use Rattle.field.specs.Declarators.{Span, Said, most, stars, name_end, groups, numbers, product, function_pointer, array_of, pointer_or_value, or_else, declared, scanned_as, parsed_as, dimensions_of, filled_by, function_told, function_as, paper_kind, paper_declarator, paper_scanned, paper_function, array_told}
use Rattle.field.specs.Declarators.Said.{function, plain, array, invalid}
use Rattle.field.specs.Helpers.{declarator_of, array_by, array_declared, parts_of, leading, scan_of, function_by, function_of}
use Rattle.field.proofs.Dimensions.{first-le, stars-le, leading-all}

-- a function pointer or not
module _ (s : List ℕ) where
  pub function_told_lem : paper_function (function_of s) ≡ function_as s
  unfolding function_of function_as
  function_told_lem = go (run function_pointer s 0)
    where
      go : (o : Outcome Span) → paper_function (function_by s o) ≡ function_told s o
      go (read name next) = refl
      go (fault x) = refl

  pub as_function : (d : records.Declarator) → Ok d ≡ function_of s → Ok (Scan.Plain d) ≡ scan_of (declared s)
  unfolding function_of declared scan_of
  as_function d h = go (run function_pointer s 0) h
    where
      go : (o : Outcome Span) → Ok d ≡ function_by s o → Ok (Scan.Plain d) ≡ scan_of (or_else s o)
      go (read name next) e = cc
      go (fault x) e = cc

  pub as_other : (y : Fault) → Err y ≡ function_of s → scan_of (pointer_or_value s) ≡ scan_of (declared s)
  unfolding function_of declared
  as_other y h = go (run function_pointer s 0) h
    where
      go : (o : Outcome Span) → Err y ≡ function_by s o → scan_of (pointer_or_value s) ≡ scan_of (or_else s o)
      go (read name next) e = cc
      go (fault x) e = refl

-- a declarator is no refusal, and where it is the answer the table is filled
accepted : (k : FieldInfo) (name rest : Span) → (kind : ℕ) × (vs : List ℕ) × (paper_kind k name rest ≡ accepts kind vs)
accepted FieldInfo.Value name rest = (_, _, refl)
accepted (FieldInfo.ValueArray len dimensions) name rest = (_, _, refl)
accepted (FieldInfo.Pointer n) name rest = (_, _, refl)
accepted (FieldInfo.PointerArray n len dimensions) name rest = (_, _, refl)
accepted FieldInfo.FnPointer name rest = (_, _, refl)

filled : (d : records.Declarator) (q : Said) (t : List ℕ) → paper_declarator d ≡ parsed_as q (length t) → over (dimensions_of q) t ≡ filled_by q t
filled d q t h =
    let w = accepted d.kind (d.name.at, d.name.len) (d.rest.at, d.rest.len) in
    accepted-written (parsed_as q (length t)) w.0 w.1 (dimensions_of q) t (sym w.2 ∙ h)

-- a declarator that is no array: what it says, and that its table stays
module _ (d : records.Declarator) where
  pub plain_told_lem : (q : Said) → Ok (Scan.Plain d) ≡ scan_of q → paper_declarator d ≡ scanned_as q
  unfolding scan_of
  plain_told_lem (function name rest) h =
      let e : d ≡ declarator_of name rest FieldInfo.FnPointer = cc in
      ap paper_declarator e
  plain_told_lem (plain zero name rest) h =
      let e : d ≡ declarator_of name rest FieldInfo.Value = cc in
      ap paper_declarator e
  plain_told_lem (plain (suc n) name rest) h =
      let e : d ≡ declarator_of name rest (FieldInfo.Pointer (suc n)) = cc in
      ap paper_declarator e
  plain_told_lem (array n name rest ds) h = cc
  plain_told_lem invalid h = cc

  plain-parsed : (q : Said) (room : ℕ) → Ok (Scan.Plain d) ≡ scan_of q → (scanned_as q ≡ parsed_as q room) × (dimensions_of q ≡ [])
  unfolding scan_of
  plain-parsed (function name rest) room h = (refl, refl)
  plain-parsed (plain n name rest) room h = (refl, refl)
  plain-parsed (array n name rest ds) room h = (cc, cc)
  plain-parsed invalid room h = (refl, refl)

  pub plain-answer : (q : Said) (t : List ℕ) → Ok (Scan.Plain d) ≡ scan_of q → (paper_declarator d ≡ parsed_as q (length t)) × (t ≡ filled_by q t)
  plain-answer q t h =
      let w = plain-parsed q (length t) h in
      let e = plain_told_lem q h ∙ w.0 in
      (e, ap (λ (ds : List ℕ). over ds t) (sym w.1) ∙ filled d q t e)

-- a content that is no number
module _ (r : Refusal) where
  invalid-told : (q : Said) → Err r ≡ scan_of q → (q ≡ invalid) × (r ≡ InvalidArraySize)
  unfolding scan_of
  invalid-told (function name rest) h = (cc, cc)
  invalid-told (plain n name rest) h = (cc, cc)
  invalid-told (array n name rest ds) h = (cc, cc)
  invalid-told invalid h = (refl, cc)

  pub invalid-scanned : (q : Said) → Err r ≡ scan_of q → paper_refusal r ≡ scanned_as q
  invalid-scanned q h =
      let w = invalid-told q h in
      rw (w.0, w.1)

  pub invalid-answer : (q : Said) (t : List ℕ) → Err r ≡ scan_of q → (paper_refusal r ≡ parsed_as q (length t)) × (t ≡ filled_by q t)
  invalid-answer q t h =
      let w = invalid-told q h in
      let e : paper_refusal r ≡ parsed_as q (length t) = rw (w.0, w.1) in
      (e, refused-kept _ _ _ _ _ e)

-- an array: its places and its dimensions
pub record Arrayed (q : Said) (a : ArrayParts) : Type 0 where
  pub stars_of : ℕ
  pub at_name : Span
  pub at_rest : Span
  pub dims : List ℕ
  pub is : q ≡ array stars_of at_name at_rest dims
  pub its_parts : a ≡ parts_of stars_of at_name at_rest dims

pub arrayed : (q : Said) (a : ArrayParts) → Ok (Scan.Array a) ≡ scan_of q → Arrayed q a
unfolding scan_of
arrayed (function b c) a h = record { stars_of = 0; at_name = b; at_rest = c; dims = []; is = cc; its_parts = cc }
arrayed (plain m b c) a h = record { stars_of = m; at_name = b; at_rest = c; dims = []; is = cc; its_parts = cc }
arrayed (array m b c ds) a h = record { stars_of = m; at_name = b; at_rest = c; dims = ds; is = refl; its_parts = cc }
arrayed invalid a h = record { stars_of = 0; at_name = (0, 0); at_rest = (0, 0); dims = []; is = cc; its_parts = cc }

array_paper : (n : ℕ) (name rest : Span) (ds : List ℕ) → paper_scanned (array_declared (parts_of n name rest ds)) ≡ scanned_as (array n name rest ds)
array_paper n name rest ds = go n (leb (product ds) most)
  where
    go : (m : ℕ) (b : Bool) → paper_scanned (array_by (parts_of m name rest ds) (elim b as (λ (c : Bool). Option ℕ) [ true ↦ Some (product ds) | false ↦ None ]))
        ≡ (elim b as (λ (c : Bool). Paper) [ true ↦ array_told m name rest ds | false ↦ product_too_large ])
    go zero true = refl
    go (suc m) true = refl
    go m false = refl

module _ (q : Said) (a : ArrayParts) (w : Arrayed q a) where
  pub array-scanned : paper_scanned (array_declared a) ≡ scanned_as q
  array-scanned = rw (w.its_parts, w.is) (array_paper w.stars_of w.at_name w.at_rest w.dims)

  array-room : (room : ℕ) → a.count ≤ room → scanned_as q ≡ parsed_as q room
  array-room room h = rw w.is (sym (failed _ _ (le-ltb _ _ (rw w.its_parts at h))))

  pub array-no-room : (t : List ℕ) → length t < a.count → (dimension_table_too_short a.count ≡ parsed_as q (length t)) × (t ≡ filled_by q t)
  array-no-room t h =
      let e : dimension_table_too_short a.count ≡ parsed_as q (length t) = rw (w.is, w.its_parts) (sym (held _ _ (lt-ltb _ _ (rw w.its_parts at h)))) in
      (e, refused-kept _ _ _ _ _ e)

  pub array-too_large : (t : List ℕ) → a.count ≤ length t → (r : Refusal) → Err r ≡ array_declared a → (paper_refusal r ≡ parsed_as q (length t)) × (t ≡ filled_by q t)
  array-too_large t h r k =
      let e = ap paper_scanned k ∙ array-scanned ∙ array-room (length t) h in
      (e, refused-kept _ _ _ _ _ e)

  array-filled : (t : List ℕ) → a.count ≤ length t → (d : records.Declarator) → Ok d ≡ array_declared a → (paper_declarator d ≡ parsed_as q (length t)) × (over w.dims t ≡ filled_by q t)
  array-filled t h d k =
      let e = ap paper_scanned k ∙ array-scanned ∙ array-room (length t) h in
      let f : dimensions_of q ≡ w.dims = ap dimensions_of w.is in
      (e, ap (λ (ds : List ℕ). over ds t) (sym f) ∙ filled d q t e)

-- where an array's groups stand, and what numbers they hold
pub record Origin (s : List ℕ) (name : Span) (ds : List ℕ) : Type 0 where
  pub from : name.0 + name.1 ≡ name_end s
  pub inside : name_end s ≤ length s
  pub held-there : leading (groups (drop (name_end s) s)) ≡ ds

module _ (s : List ℕ) (n : ℕ) (name rest : Span) (ds : List ℕ) where
  by-numbers : (o : Maybe (List ℕ)) → numbers (groups (drop (name_end s) s)) ≡ o → array_of s (groups (drop (name_end s) s)) o ≡ array n name rest ds → Origin s name ds
  by-numbers none t h =
      let z : ◌≡◌ {A = ℕ} 0 1 = cc in
      absurd (omega arith)
  by-numbers (some es) t h =
      let e : es ≡ ds = cc in
      let p : name ≡ (stars s, name_end s - stars s) = cc in
      record {
        from = rw p (omega arith);
        inside = first-le (code "[") s (stars s) (stars-le s);
        held-there = leading-all (groups (drop (name_end s) s)) ds (t ∙ ap some e);
      }

  pub origin : declared s ≡ array n name rest ds → Origin s name ds
  unfolding declared pointer_or_value
  origin h = go (run function_pointer s 0) (eqb (name_end s) (length s)) refl h
    where
      go : (o : Outcome Span) (c : Bool) → eqb (name_end s) (length s) ≡ c → or_else s o ≡ array n name rest ds → Origin s name ds
      go (read place next) c u g =
          let z : ◌≡◌ {A = ℕ} 0 1 = cc in
          absurd (omega arith)
      go (fault x) true u g =
          let e = sym (held _ _ u) ∙ g in
          let z : ◌≡◌ {A = ℕ} 0 1 = cc in
          absurd (omega arith)
      go (fault x) false u g = by-numbers (numbers (groups (drop (name_end s) s))) refl (sym (failed _ _ u) ∙ g)

module _ (s : List ℕ) (a : ArrayParts) (w : Arrayed (declared s) a) where
  its_origin : Origin s w.at_name w.dims
  its_origin = origin s w.stars_of w.at_name w.at_rest w.dims w.is

  at-groups : a.name.at + a.name.len ≡ name_end s
  at-groups = rw w.its_parts its_origin.from

  pub groups-inside : a.name.at + a.name.len ≤ length s
  groups-inside = rw at-groups its_origin.inside

  groups_hold : leading (groups (take (length s - (a.name.at + a.name.len)) (drop (a.name.at + a.name.len) s))) ≡ w.dims
  groups_hold = rw (to_the_end s (a.name.at + a.name.len), at-groups) its_origin.held-there

  pub groups-few : (t : List ℕ) → a.count ≤ length t → length (leading (groups (take (length s - (a.name.at + a.name.len)) (drop (a.name.at + a.name.len) s)))) ≤ length t
  groups-few t h = rw (groups_hold, ← ap (λ (x : ArrayParts). x.count) w.its_parts) h

  pub array-answer : (t t' : List ℕ) → a.count ≤ length t → (d : records.Declarator) → Ok d ≡ array_declared a
      → t' ≡ leading (groups (take (length s - (a.name.at + a.name.len)) (drop (a.name.at + a.name.len) s)))
      ++ drop (length (leading (groups (take (length s - (a.name.at + a.name.len)) (drop (a.name.at + a.name.len) s))))) t
      → (paper_declarator d ≡ parsed_as (declared s) (length t)) × (t' ≡ filled_by (declared s) t)
  array-answer t t' h d k e =
      let f = array-filled (declared s) a w t h d k in
      (f.0, (rw groups_hold at e) ∙ f.1)
