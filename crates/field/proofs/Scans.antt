-- From the parts of a declarator to the whole, as the code finds them.
use Prim.Native.Char.{code}
use Prim.Native.Nat.{ℕ, ◌+◌, ◌-◌, ◌≤◌, ◌<◌}
use mathlib.Core.Bool.{Bool, true, false}
use mathlib.Core.List.{List, []}
use mathlib.Core.Option.{Option as Maybe, none, some}
use mathlib.Core.Path.{◌≡◌, refl, sym, ◌∙◌, ap}
use native.Mathlib.Nat.{zero-add, one-mul}
use native.Mathlib.Omega.{arith}
use borrow.Author.Tests.{ltb-true, eq-eqb, ne_eqb}
use lib.ListN.{length, take, drop, length-drop}
use Rattle.std.specs.Prelude.{Option, Some, Ok, Err}
use Rattle.octets.specs.Ascii.{ascii}
use Rattle.octets.specs.declared.Fault.{Fault}
use Rattle.octets.specs.declared.Fault.TheVariants.{Cut}
use Rattle.octets.specs.declared.Refusal.{Refusal}
use Rattle.octets.specs.declared.Refusal.TheVariants.{InvalidArraySize}
use Rattle.octets.specs.Number.{tag}
use Rattle.octets.specs.Reader.{Reader, Outcome, run, before, ended_by}
use Rattle.octets.specs.Reader.Reader.{done, here, until}
use Rattle.octets.specs.Reader.Outcome.{read, fault}
use Rattle.octets.proofs.Onward.{tag-on, tag-stops, until-on, until-stops}
use Rattle.octets.proofs.Reading.{to_the_end}
use Rattle.octets.proofs.Tests.{held, failed}
use Rattle.field.specs.declared.field.FieldInfo.{FieldInfo}
use Rattle.field.specs.declared.field.Groups.{Groups}
use Rattle.field.specs.declared.field.Scan.{Scan}
use Rattle.field.specs.Declarators.{Span, first, onwards, function_pointer, stars, name_end, groups, numbers, spanned, product, array_of, pointer_or_value}
use Rattle.field.specs.Helpers.{plain_kind, place_of, declarator_of, function_args, function_by, function_of, scan_of, capped, all_times, finish_by, finish}
use Rattle.field.proofs.Products.{all-capped}
use Rattle.field.proofs.Dimensions.{first-le, stars-le, groups-within}

-- the reads of a function pointer, one after another
module _ (s : List ℕ) where
  module _ (name : Span) (at : ℕ) where
    pub args_stop : (x : Fault) → ◌≡◌ {A = Outcome (Unit {0})} (fault x) (run (tag (ascii "(") (done tt)) s at) → Err x ≡ function_by s (run (function_args name) s at)
    args_stop x h = sym (ap (function_by s) (tag-stops s at (ascii "(") (until (code ")") (λ n. done name)) x h))

    module _ (next : ℕ) (h : ◌≡◌ {A = Outcome (Unit {0})} (read tt next) (run (tag (ascii "(") (done tt)) s at)) where
      args-on : run (function_args name) s at ≡ run (until (code ")") (λ n. done name)) s next
      args-on = tag-on s at (ascii "(") (until (code ")") (λ n. done name)) next h

      pub args_open : (x : Fault) → fault x ≡ run (until (code ")") done) s next → Err x ≡ function_by s (run (function_args name) s at)
      args_open x k = sym (ap (function_by s) (args-on ∙ until-stops s next (code ")") (λ n. done name) x k))

      pub args_read : (n rest : ℕ) → read n rest ≡ run (until (code ")") done) s next
          → Ok (declarator_of name (onwards s rest) FieldInfo.FnPointer) ≡ function_by s (run (function_args name) s at)
      unfolding run
      args_read n rest k = sym (ap (function_by s) (args-on ∙ until-on s next (code ")") (λ n. done name) n rest k))

  -- the name, after which `rest` is read
  name-then : ℕ → Reader Span
  name-then at = until (code ")") (λ len. function_args (at, len))

  pub no_opening : (x : Fault) → ◌≡◌ {A = Outcome (Unit {0})} (fault x) (run (tag (ascii "(*") (done tt)) s 0) → Err x ≡ function_of s
  unfolding function_of function_pointer name-then
  no_opening x h = sym (ap (function_by s) (tag-stops s 0 (ascii "(*") (here name-then) x h))

  module _ (from : ℕ) (h : ◌≡◌ {A = Outcome (Unit {0})} (read tt from) (run (tag (ascii "(*") (done tt)) s 0)) where
    opened : run function_pointer s 0 ≡ run (name-then from) s from
    unfolding function_pointer name-then run
    opened = tag-on s 0 (ascii "(*") (here name-then) from h

    pub name_open : (x : Fault) → fault x ≡ run (until (code ")") done) s from → Err x ≡ function_of s
    unfolding function_of name-then
    name_open x k = sym (ap (function_by s) (opened ∙ until-stops s from (code ")") (λ len. function_args (from, len)) x k))

    pub name-read : (len next : ℕ) → read len next ≡ run (until (code ")") done) s from → function_of s ≡ function_by s (run (function_args (from, len)) s next)
    unfolding function_of name-then
    name-read len next k = ap (function_by s) (opened ∙ until-on s from (code ")") (λ len. function_args (from, len)) len next k)

-- a run that was read ends among the bytes
pub rest-inside : (s : List ℕ) (c at n next : ℕ) → read n next ≡ run (until c done) s at → next ≤ length s
unfolding run
rest-inside s c at n next h = go (ended_by c s at) refl h
  where
    go : (t : Bool) → ended_by c s at ≡ t
        → read n next ≡ (elim t as (λ (b : Bool). Outcome ℕ) [ true ↦ read (before c (drop at s)) (at + (before c (drop at s) + 1)) | false ↦ fault (Cut at) ]) → next ≤ length s
    go true t g =
        let e : next ≡ at + (before c (drop at s) + 1) = cc in
        let l : at + before c (drop at s) < length s = ltb-true _ _ t in
        omega arith
    go false t g =
        let z : ◌≡◌ {A = ℕ} 0 1 = cc in
        absurd (omega arith)

-- what the loop over all groups found
found_bad : (n k : ℕ) (p : Option ℕ) (o : Maybe (List ℕ)) (r : Refusal) → Err r ≡ finish_by n p k o → (o ≡ none) × (r ≡ InvalidArraySize)
found_bad n k p none r h = (refl, cc)
found_bad n k p (some ds) r h = (cc, cc)

found_are : (k : ℕ) (o : Maybe (List ℕ)) (g : Groups) → Ok g ≡ finish_by 0 (Some 1) k o
    → (ds : List ℕ) × (o ≡ some ds) × (g ≡ record { count = length ds; product = capped (product ds); span = k })
found_are k none g h = ([], cc, cc)
found_are k (some ds) g h =
    let e : g ≡ record { count = 0 + length ds; product = all_times (Some 1) ds; span = k } = cc in
    let q : all_times (Some 1) ds ≡ capped (product ds) = all-capped 1 ds ∙ ap capped (one-mul (product ds)) in
    (ds, refl, rw (zero-add (length ds), q) at e)

-- a pointer or a value
module _ (s : List ℕ) (n end : ℕ) (en : n ≡ stars s) (ee : end ≡ first (code "[") s n) where
  at-end : end ≡ name_end s
  at-end = rw en at ee

  pub end-le : end ≤ length s
  end-le = rw at-end (first-le (code "[") s (stars s) (stars-le s))

  pub plain_scan : (kind : FieldInfo) → end ≡ length s → kind ≡ plain_kind n → Ok (Scan.Plain (declarator_of (n, end - n) (end, length s - end) kind)) ≡ scan_of (pointer_or_value s)
  unfolding scan_of pointer_or_value
  plain_scan kind t k = rw (k, at-end, en) (sym (ap scan_of (held _ _ (eq-eqb _ _ (sym at-end ∙ t)))))

  module _ (z : end ≡ length s → ⊥) where
    as-array : array_of s (groups (drop end s)) (numbers (groups (drop end s))) ≡ pointer_or_value s
    unfolding pointer_or_value
    as-array =
        let y : name_end s ≡ length s → ⊥ = λ e. z (at-end ∙ e) in
        rw at-end (sym (failed _ _ (ne_eqb _ _ y)))

    pub bad_scan : (r : Refusal) → Err r ≡ finish 0 (Some 1) 0 (take (length s - end) (drop end s)) → Err r ≡ scan_of (pointer_or_value s)
    unfolding finish scan_of
    bad_scan r h =
        let b = found_bad _ _ _ (numbers (groups (drop end s))) r (rw (to_the_end s end) at h) in
        rw b.1 (ap scan_of (ap (array_of s (groups (drop end s))) (sym b.0) ∙ as-array))

    array-with : (count span : ℕ) (p : Option ℕ) (ds : List ℕ) → numbers (groups (drop end s)) ≡ some ds → count ≡ length ds → p ≡ capped (product ds)
        → span ≡ spanned (groups (drop end s))
        → Ok (Scan.Array (record { indirection_count = n; name = place_of (n, end - n); rest = place_of (onwards s (end + span)); count = count; product = p })) ≡ scan_of (pointer_or_value s)
    unfolding scan_of
    array-with count span p ds w c q e =
        rw (c, q, e, en, at-end) (ap scan_of (ap (array_of s (groups (drop (name_end s) s))) (sym (rw at-end at w)) ∙ rw at-end at as-array))

    module _ (g : Groups) (h : Ok g ≡ finish 0 (Some 1) 0 (take (length s - end) (drop end s))) where
      parts : (ds : List ℕ) × (numbers (groups (drop end s)) ≡ some ds) × (g ≡ record { count = length ds; product = capped (product ds); span = 0 + spanned (groups (drop end s)) })
      unfolding finish
      parts = found_are (0 + spanned (groups (drop end s))) (numbers (groups (drop end s))) g (rw (to_the_end s end) at h)

      span_is : g.span ≡ spanned (groups (drop end s))
      span_is = rw parts.2 (zero-add _)

      pub span_le : end + g.span ≤ length s
      span_le = omega (arith, span_is, groups-within (drop end s), length-drop end s, end-le)

      pub array_scan : Ok (Scan.Array (record { indirection_count = n; name = place_of (n, end - n); rest = place_of (onwards s (end + g.span)); count = g.count; product = g.product }))
          ≡ scan_of (pointer_or_value s)
      array_scan = array-with g.count g.span g.product parts.0 parts.1 (ap (λ (x : Groups). x.count) parts.2) (ap (λ (x : Groups). x.product) parts.2) span_is
