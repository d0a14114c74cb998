-- Laws of a block header: how its tree goes on number by number, all of it there or not, and how far it goes.
use Prim.Native.Nat.{ℕ, ◌+◌, ◌≤◌, ◌<◌}
use mathlib.Core.Bool.{Bool, true, false, ◌||◌}
use mathlib.Core.List.{List, [], ◌∷◌}
use mathlib.Core.Path.{◌≡◌, refl, sym, ◌∙◌, ap}
use native.Mathlib.Omega.{arith}
use borrow.Author.Tests.{eq-eqb, ne_eqb}
use lib.Dec.{eqb}
use lib.ListN.{length, drop}
use Rattle.octets.specs.declared.Endianness.{Endianness}
use Rattle.octets.specs.declared.Endianness.TheVariants.{Little, Big}
use Rattle.octets.specs.declared.Fault.{Fault}
use Rattle.octets.specs.declared.Fault.TheVariants.{Cut}
use Rattle.octets.specs.declared.Refusal.TheVariants.{InvalidMemoryAddress}
use Rattle.octets.specs.declared.PointerSize.{PointerSize}
use Rattle.octets.specs.Helpers.{number_at}
use Rattle.octets.specs.Number.{number}
use Rattle.octets.specs.PointerSize.{pointer_bytes}
use Rattle.octets.specs.Reader.{Reader, Outcome, run}
use Rattle.octets.specs.Reader.Reader.{done, refuse, skip}
use Rattle.octets.specs.Reader.Outcome.{read, fault}
use Rattle.octets.proofs.Going.{number_passed, number-missing, number_cut, number_in}
use Rattle.octets.proofs.Onward.{number-on, number-stops, number_moves}
use Rattle.octets.proofs.Parts.{skip-room}
use Rattle.octets.proofs.Tests.{held, failed}
use Rattle.header.specs.declared.FileFormat.{FileFormat}
use Rattle.header.specs.declared.FileFormat.TheVariants.{Legacy, New}
use Rattle.header.specs.declared.Header.{Header}
use Rattle.header.specs.Layout.{Field, Item, item, layout_of, layout, widths, block_header_length}
use Rattle.header.specs.Layout.Field.{size, address, index, count}
use Rattle.header.proofs.Lengths.{layout-length}
use Rattle.block.specs.declared.BlockHeader.{BlockHeader}
use Rattle.block.specs.BlockHeaders.{code_told, tell, tested, fields, block_header, tell_all, header_at}
use Rattle.block.specs.Helpers.{last_two, last_width, with_address}

-- how wide a block header's numbers are together
pub length-parts : (f : FileFormat) (p : PointerSize) → block_header_length f p ≡ 8 + pointer_bytes p + last_width f + last_width f
length-parts Legacy p = omega arith
length-parts New p = omega arith

-- All of the numbers are there: they are told, unless an address among them is 0.
abbrev is_null : Field → ℕ → Bool
is_null size n = false
is_null address n = eqb n 0
is_null index n = false
is_null count n = false

abbrev null_in : List Item → List ℕ → ℕ → Bool
null_in [] s at = false
null_in (i ∷ is) s at = is_null i.field (number_at i.order i.width s at) || null_in is s (at + i.width)

abbrev unless_null : Bool → BlockHeader → ℕ → Outcome BlockHeader
unless_null true b next = fault (Fault.Refusal InvalidMemoryAddress)
unless_null false b next = read b next

tested-there : (f : Field) (n : ℕ) (r : Reader BlockHeader) (s : List ℕ) (at : ℕ) (t : Bool) (b : BlockHeader) (next : ℕ) → run r s at ≡ unless_null t b next
    → run (tested f n r) s at ≡ unless_null (is_null f n || t) b next
unfolding run
tested-there size n r s at t b next h = h
tested-there index n r s at t b next h = h
tested-there count n r s at t b next h = h
tested-there address n r s at t b next h = go (eqb n 0)
  where
    go : (c : Bool) → run (elim c as (λ (d : Bool). Reader BlockHeader) [ true ↦ refuse InvalidMemoryAddress | false ↦ r ]) s at ≡ unless_null (c || t) b next
    go true = refl
    go false = h

fields-there : (is : List Item) (b : BlockHeader) (s : List ℕ) (at : ℕ) → at + widths is ≤ length s
    → run (fields is b) s at ≡ unless_null (null_in is s at) (tell_all is s at b) (at + widths is)
unfolding fields run
fields-there [] b s at h = ap (read b) (omega arith)
fields-there (i ∷ is) b s at h =
    let n = number_at i.order i.width s at in
    let on : ℕ → Reader BlockHeader = λ m. tested i.field m (fields is (tell i.field m b)) in
    let w = fields-there is (tell i.field n b) s (at + i.width) (omega arith) in
    let e : at + i.width + widths is ≡ at + (i.width + widths is) = omega arith in
    number_in i.order i.width on s at (omega arith)
    ∙ tested-there i.field n (fields is (tell i.field n b)) s (at + i.width) (null_in is s (at + i.width)) (tell_all is s (at + i.width) (tell i.field n b)) (at + i.width + widths is) w
    ∙ ap (unless_null (null_in (i ∷ is) s at) (tell_all (i ∷ is) s at b)) e

-- in both layouts one address is tested
or_false : (t : Bool) → (t || false) ≡ t
or_false true = refl
or_false false = refl

null-address : (f : FileFormat) (p : ℕ) (e : Endianness) (s : List ℕ) (at : ℕ) (b : BlockHeader)
    → null_in (layout_of f p e) s at ≡ eqb (tell_all (layout_of f p e) s at b).address 0
null-address Legacy p e s at b = or_false (eqb (number_at e p s (at + 4)) 0)
null-address New p e s at b = or_false (eqb (number_at e p s (at + 4)) 0)

module _ (h : Header) (s : List ℕ) (at : ℕ) where
  abbrev code : ℕ
  code = number_at Big 4 s at

  pub header_there : at + block_header_length h.format h.pointer_size ≤ length s
      → with_address (header_at h s at) (at + block_header_length h.format h.pointer_size) ≡ run (block_header h) s at
  unfolding block_header
  header_there fits =
      let l = layout-length h in
      let e : at + 4 + widths (layout h) ≡ at + block_header_length h.format h.pointer_size = omega (arith, l) in
      sym (
      number_in Big 4 (λ c. fields (layout h) (code_told c)) s at (omega (arith, l)) ∙ fields-there (layout h) (code_told code) s (at + 4) (omega (arith, l))
      ∙ ap (unless_null (null_in (layout h) s (at + 4)) (header_at h s at)) e
      ∙ ap (λ (t : Bool). unless_null t (header_at h s at) (at + block_header_length h.format h.pointer_size)) (null-address h.format (pointer_bytes h.pointer_size) h.endianness s (at + 4) (code_told code))
      ∙ unless (eqb (header_at h s at).address 0)
      )
    where
      unless : (t : Bool) → unless_null t (header_at h s at) (at + block_header_length h.format h.pointer_size)
          ≡ (elim t as (λ (c : Bool). Outcome BlockHeader) [ true ↦ fault (Fault.Refusal InvalidMemoryAddress) | false ↦ read (header_at h s at) (at + block_header_length h.format h.pointer_size) ])
      unless true = refl
      unless false = refl

-- Not all of them are there: the first that is not, number by number.
module _ (i : Item) (is : List Item) (b : BlockHeader) (s : List ℕ) (at : ℕ) where
  item-missing : (x : Fault) → ◌≡◌ {A = Outcome (Unit {0})} (fault x) (run (skip i.width (done tt)) s at) → run (fields (i ∷ is) b) s at ≡ fault x
  unfolding fields
  item-missing x g = number-missing i.order i.width (λ n. tested i.field n (fields is (tell i.field n b))) s at x g

  item-cut : length s < at + i.width → run (fields (i ∷ is) b) s at ≡ fault (Cut at)
  unfolding fields
  item-cut k = number_cut i.order i.width (λ n. tested i.field n (fields is (tell i.field n b))) s at k

  item-passed : (next : ℕ) → ◌≡◌ {A = Outcome (Unit {0})} (read tt next) (run (skip i.width (done tt)) s at)
      → run (fields (i ∷ is) b) s at ≡ run (tested i.field (number_at i.order i.width s at) (fields is (tell i.field (number_at i.order i.width s at) b))) s next
  unfolding fields
  item-passed next g = number_passed i.order i.width (λ n. tested i.field n (fields is (tell i.field n b))) s at next g

module _ (f : FileFormat) (p : ℕ) (e : Endianness) (b : BlockHeader) (s : List ℕ) (at : ℕ) where
  first-missing : (x : Fault) → ◌≡◌ {A = Outcome (Unit {0})} (fault x) (run (skip 4 (done tt)) s at) → run (fields (layout_of f p e) b) s at ≡ fault x
  first-missing x g = go f
    where
      go : (f : FileFormat) → run (fields (layout_of f p e) b) s at ≡ fault x
      go Legacy = item-missing (item size 4 e) (drop 1 (layout_of Legacy p e)) b s at x g
      go New = item-missing (item index 4 Little) (drop 1 (layout_of New p e)) b s at x g

  first-passed : (next : ℕ) → ◌≡◌ {A = Outcome (Unit {0})} (read tt next) (run (skip 4 (done tt)) s at)
      → (d : BlockHeader) × (run (fields (layout_of f p e) b) s at ≡ run (fields (item address p e ∷ last_two f p e) d) s next)
  first-passed next g = go f
    where
      go : (f : FileFormat) → (d : BlockHeader) × (run (fields (layout_of f p e) b) s at ≡ run (fields (item address p e ∷ last_two f p e) d) s next)
      go Legacy = (tell size (number_at e 4 s at) b, item-passed (item size 4 e) (drop 1 (layout_of Legacy p e)) b s at next g)
      go New = (tell index (number_at Little 4 s at) b, item-passed (item index 4 Little) (drop 1 (layout_of New p e)) b s at next g)

  -- the last two
  module _ (w : ℕ) (l : w ≡ last_width f) where
    last_missing : (x : Fault) → ◌≡◌ {A = Outcome (Unit {0})} (fault x) (run (skip w (done tt)) s at) → fault x ≡ run (fields (last_two f p e) b) s at
    last_missing x g = sym (go f l)
      where
        go : (f : FileFormat) → w ≡ last_width f → run (fields (last_two f p e) b) s at ≡ fault x
        go Legacy l = item-missing (item index 4 e) (drop 3 (layout_of Legacy p e)) b s at x (rw l at g)
        go New l = item-missing (item size 8 Little) (drop 3 (layout_of New p e)) b s at x (rw l at g)

    last-passed : (next : ℕ) → ◌≡◌ {A = Outcome (Unit {0})} (read tt next) (run (skip w (done tt)) s at) → length s < at + (last_width f + last_width f)
        → fault (Cut next) ≡ run (fields (last_two f p e) b) s at
    unfolding fields
    last-passed next g short = sym (go f l short)
      where
        go : (f : FileFormat) → w ≡ last_width f → length s < at + (last_width f + last_width f) → run (fields (last_two f p e) b) s at ≡ fault (Cut next)
        go Legacy l k =
            let q = skip-room w s at next g in
            item-passed (item index 4 e) (drop 3 (layout_of Legacy p e)) b s at next (rw l at g)
            ∙ item-cut (item count 4 e) [] (tell index (number_at e 4 s at) b) s next (omega (arith, q.0, l))
        go New l k =
            let q = skip-room w s at next g in
            item-passed (item size 8 Little) (drop 3 (layout_of New p e)) b s at next (rw l at g)
            ∙ item-cut (item count 8 Little) [] (tell size (number_at Little 8 s at) b) s next (omega (arith, q.0, l))

-- a block header, number by number
module _ (h : Header) (s : List ℕ) (at : ℕ) where
  abbrev f : FileFormat
  f = h.format

  abbrev p : ℕ
  p = pointer_bytes h.pointer_size

  abbrev e : Endianness
  e = h.endianness

  pub code-missing : (x : Fault) → ◌≡◌ {A = Outcome (Unit {0})} (fault x) (run (skip 4 (done tt)) s at) → fault x ≡ run (block_header h) s at
  unfolding block_header
  code-missing x g = sym (number-missing Big 4 (λ c. fields (layout h) (code_told c)) s at x g)

  pub code-cut : length s < at + 4 → fault (Cut at) ≡ run (block_header h) s at
  unfolding block_header
  code-cut k = sym (number_cut Big 4 (λ c. fields (layout h) (code_told c)) s at k)

  module _ (one : ℕ) (g : ◌≡◌ {A = Outcome (Unit {0})} (read tt one) (run (skip 4 (done tt)) s at)) where
    on-code : run (block_header h) s at ≡ run (fields (layout h) (code_told (number_at Big 4 s at))) s one
    unfolding block_header
    on-code = number_passed Big 4 (λ c. fields (layout h) (code_told c)) s at one g

    pub first-number-missing : (x : Fault) → ◌≡◌ {A = Outcome (Unit {0})} (fault x) (run (skip 4 (done tt)) s one) → fault x ≡ run (block_header h) s at
    first-number-missing x k = sym (on-code ∙ first-missing f p e (code_told (number_at Big 4 s at)) s one x k)

    module _ (two : ℕ) (k : ◌≡◌ {A = Outcome (Unit {0})} (read tt two) (run (skip 4 (done tt)) s one)) where
      after_first : (d : BlockHeader) × (run (fields (layout_of f p e) (code_told (number_at Big 4 s at))) s one ≡ run (fields (item address p e ∷ last_two f p e) d) s two)
      after_first = first-passed f p e (code_told (number_at Big 4 s at)) s one two k

      on-address : ℕ → Reader BlockHeader
      on-address n = tested address n (fields (last_two f p e) (tell address n after_first.0))

      module _ (w : ℕ) (q : w ≡ p) where
        on-first : run (block_header h) s at ≡ run (number e w on-address) s two
        unfolding on-address fields
        on-first = on-code ∙ after_first.1 ∙ ap (λ (m : ℕ). run (number e m on-address) s two) (sym q)

        pub address-missing : (x : Fault) → fault x ≡ run (number e w done) s two → fault x ≡ run (block_header h) s at
        address-missing x l = sym (on-first ∙ number-stops s two e w on-address x l)

        module _ (n three : ℕ) (l : read n three ≡ run (number e w done) s two) where
          pub address-null : n ≡ 0 → fault (Fault.Refusal InvalidMemoryAddress) ≡ run (block_header h) s at
          unfolding on-address run
          address-null z = sym (on-first ∙ number-on s two e w on-address n three l ∙ ap (λ (r : Reader BlockHeader). run r s three) (held _ _ (eq-eqb _ _ z)))

          last-short : length s < at + block_header_length f h.pointer_size → length s < three + (last_width f + last_width f)
          last-short m =
              let a = skip-room 4 s at one g in
              let b = skip-room 4 s one two k in
              let c = number_moves e s w two n three (sym l) in
              omega (arith, m, a.0, b.0, c, q, length-parts f h.pointer_size)

          module _ (z : n ≡ 0 → ⊥) where
            told_so_far : BlockHeader
            told_so_far = tell address n after_first.0

            rest : run (fields (last_two f p e) told_so_far) s three ≡ run (block_header h) s at
            unfolding on-address told_so_far
            rest = sym (on-first ∙ number-on s two e w on-address n three l ∙ ap (λ (r : Reader BlockHeader). run r s three) (failed _ _ (ne_eqb _ _ z)))

            pub rest-missing : (x : Fault) → ((p : ℕ) (e : Endianness) (b : BlockHeader) → fault x ≡ run (fields (last_two f p e) b) s three) → fault x ≡ run (block_header h) s at
            rest-missing x m = m p e told_so_far ∙ rest

            module _ (v : ℕ) (o : v ≡ last_width f) where
              pub rest_stopped : (x : Fault) → ◌≡◌ {A = Outcome (Unit {0})} (fault x) (run (skip v (done tt)) s three) → fault x ≡ run (block_header h) s at
              rest_stopped x m = rest-missing x (λ p e b. last_missing f p e b s three v o x m)

              pub rest_cut : (next : ℕ) → ◌≡◌ {A = Outcome (Unit {0})} (read tt next) (run (skip v (done tt)) s three) → length s < at + block_header_length f h.pointer_size
                  → fault (Cut next) ≡ run (block_header h) s at
              rest_cut next m y = rest-missing (Cut next) (λ p e b. last-passed f p e b s three v o next m (last-short y))

-- how far a block header goes
pub tested_reads : {A : Type 0} (f : Field) (n : ℕ) (r : Reader A) (s : List ℕ) (at : ℕ) (a : A) (next : ℕ) → run (tested f n r) s at ≡ read a next → run r s at ≡ read a next
unfolding run
tested_reads {A} size n r s at a next h = h
tested_reads {A} index n r s at a next h = h
tested_reads {A} count n r s at a next h = h
tested_reads {A} address n r s at a next h = go (eqb n 0) h
  where
    go : (t : Bool) → run (elim t as (λ (c : Bool). Reader A) [ true ↦ refuse InvalidMemoryAddress | false ↦ r ]) s at ≡ read a next → run r s at ≡ read a next
    go true g = cc
    go false g = g

fields_move : (is : List Item) (b : BlockHeader) (s : List ℕ) (at : ℕ) (r : BlockHeader) (next : ℕ) → run (fields is b) s at ≡ read r next → next ≡ at + widths is
unfolding fields run
fields_move [] b s at r next h =
    let q : at ≡ next = cc in
    omega arith
fields_move (i ∷ is) b s at r next h = go (run (number i.order i.width done) s at) refl (λ n mid. fields_move is (tell i.field n b) s mid r next)
  where
    on : ℕ → Reader BlockHeader
    on n = tested i.field n (fields is (tell i.field n b))

    go : (o : Outcome ℕ) → run (number i.order i.width done) s at ≡ o
        → ((n mid : ℕ) → run (fields is (tell i.field n b)) s mid ≡ read r next → next ≡ mid + widths is) → next ≡ at + (i.width + widths is)
    go (read n mid) t f =
        let g = sym (number-on s at i.order i.width on n mid (sym t)) ∙ h in
        let k = f n mid (tested_reads i.field n (fields is (tell i.field n b)) s mid r next g) in
        omega (arith, k, number_moves i.order s i.width at n mid t)
    go (fault x) t f =
        let g : fault x ≡ read r next = sym (number-stops s at i.order i.width on x (sym t)) ∙ h in
        cc

pub block_header_moves : (h : Header) (s : List ℕ) (at : ℕ) (b : BlockHeader) (next : ℕ) → run (block_header h) s at ≡ read b next
    → next ≡ at + block_header_length h.format h.pointer_size
unfolding block_header
block_header_moves h s at b next g = go (run (number Big 4 done) s at) refl
  where
    go : (o : Outcome ℕ) → run (number Big 4 done) s at ≡ o → next ≡ at + block_header_length h.format h.pointer_size
    go (read c mid) t =
        let k = sym (number-on s at Big 4 (λ c. fields (layout h) (code_told c)) c mid (sym t)) ∙ g in
        omega (arith, fields_move (layout h) _ s mid b next k, number_moves Big s 4 at c mid t, layout-length h)
    go (fault x) t =
        let k : fault x ≡ read b next = sym (number-stops s at Big 4 (λ c. fields (layout h) (code_told c)) x (sym t)) ∙ g in
        cc
