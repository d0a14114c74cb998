-- What is known of a header, rows and a source that can be written: what each row is taken as, that all of it has room, and how many bytes there are. And all of
-- that is enough.
use Rattle.std.specs.Prelude.{Result, Ok, Err, Some, None}
use Prim.Native.Nat.{ℕ, suc, ◌+◌, ◌-◌, ◌^◌, ◌≤◌}
use mathlib.Core.Bool.{Bool, true, false}
use mathlib.Core.List.{List, [], ◌∷◌}
use mathlib.Core.Path.{◌≡◌, refl, sym, ◌∙◌, ap}
use native.Mathlib.Omega.{arith}
use borrow.Author.Tests.{ltb-false, leb-true, eqb-false, le-ltb, le-leb, ne_eqb}
use lib.Dec.{ltb, eqb}
use lib.ListN.{length}
use Rattle.octets.specs.declared.Endianness.{Endianness}
use Rattle.octets.specs.declared.Refusal.TheVariants.{InvalidMemoryAddress, NotThere, ProductTooLarge}
use Rattle.octets.specs.Reader.{Outcome, run, room}
use Rattle.octets.specs.Reader.Outcome.{read, fault}
use Rattle.octets.proofs.Tests.{held, failed}
use Rattle.dna.specs.declared.dna.DnaCounts.{DnaCounts}
use Rattle.header.specs.declared.Header.{Header}
use Rattle.header.specs.HeaderOut.{header_fits}
use Rattle.block.specs.declared.Row.{Row}
use Rattle.block.specs.Rows.{payload_of}
use Rattle.block.specs.Spelling.{row_fits}
use Rattle.octets.specs.declared.Fault.{Fault}
use Rattle.writable.specs.declared.writable.WritableError.{WritableError}
use Rattle.writable.specs.Writable.{Last, as_last, judged_by, judged, on_judged, all_judged, first_unfit, file_length, counted, on_last, needed_for}

-- A row that is taken.
pub record RowTaken (e : Endianness) (s : List ℕ) (r : Row) (l : Last) : Type 0 where
  pub some : r.address ≡ 0 → ⊥
  pub inside : r.payload + r.len ≤ length s
  pub end : ℕ
  pub found : run (as_last e r.code r.count) (payload_of s r) 0 ≡ read l end

module _ (e : Endianness) (s : List ℕ) (r : Row) (l : Last) where
  pub row-taken : judged e s r ≡ Ok l → RowTaken e s r l
  unfolding judged
  row-taken g = address (eqb r.address 0) refl g
    where
      found : (z : r.address ≡ 0 → ⊥) → r.payload + r.len ≤ length s → (o : Outcome Last) → run (as_last e r.code r.count) (payload_of s r) 0 ≡ o → judged_by o ≡ Ok l → RowTaken e s r l
      found z i (read m end) q w =
          let x : m ≡ l = cc in
          record { some = z; inside = i; end = end; found = q ∙ ap (λ (y : Last). read y end) x }
      found z i (fault f) q w =
          let y : ◌≡◌ {A = ℕ} 0 1 = cc in
          absurd (omega arith)

      payload : (z : r.address ≡ 0 → ⊥) (b : Bool) → room s r.payload r.len ≡ b
          → (elim b as (λ c. (Result Last Fault)) [ true ↦ judged_by (run (as_last e r.code r.count) (payload_of s r) 0) | false ↦ Err (Fault.Refusal NotThere) ]) ≡ Ok l
          → RowTaken e s r l
      payload z true q w = found z (leb-true _ _ q) (run (as_last e r.code r.count) (payload_of s r) 0) refl w
      payload z false q w =
          let y : ◌≡◌ {A = ℕ} 0 1 = cc in
          absurd (omega arith)

      address : (b : Bool) → eqb r.address 0 ≡ b
          → (elim b as (λ c. (Result Last Fault)) [
            | true ↦ Err (Fault.Refusal InvalidMemoryAddress)
            | false ↦ elim (room s r.payload r.len) as (λ c. (Result Last Fault)) [ true ↦ judged_by (run (as_last e r.code r.count) (payload_of s r) 0) | false ↦ Err (Fault.Refusal NotThere) ]
          ])
          ≡ Ok l
          → RowTaken e s r l
      address true q w =
          let y : ◌≡◌ {A = ℕ} 0 1 = cc in
          absurd (omega arith)
      address false q w = payload (eqb-false _ _ q) (room s r.payload r.len) refl w

  pub taken-row : RowTaken e s r l → judged e s r ≡ Ok l
  unfolding judged
  taken-row t = failed _ _ (ne_eqb _ _ t.some) ∙ held _ _ (le-leb _ _ t.inside) ∙ ap judged_by t.found

-- Rows that are all taken, the last of them as l.
abbrev pub AllTaken : Endianness → List ℕ → List Row → Last → Last → Type 0
AllTaken e s [] last l = last ≡ l
AllTaken e s (r ∷ rs) last l = (m : Last) × RowTaken e s r m × AllTaken e s rs m l

pub all-taken : (e : Endianness) (s : List ℕ) (rs : List Row) (last l : Last) → all_judged e s rs last ≡ Ok l → AllTaken e s rs last l
unfolding all_judged
all-taken e s [] last l g = cc
all-taken e s (r ∷ rs) last l g = go (judged e s r) refl g (λ m. all-taken e s rs m l)
  where
    go : (j : Result Last Fault) → judged e s r ≡ j → on_judged j (all_judged e s rs) ≡ Ok l → ((m : Last) → all_judged e s rs m ≡ Ok l → AllTaken e s rs m l) → AllTaken e s (r ∷ rs) last l
    go (Ok m) q w f = (m, row-taken e s r m q, f m w)
    go (Err x) q w f =
        let y : ◌≡◌ {A = ℕ} 0 1 = cc in
        absurd (omega arith)

pub taken-all : (e : Endianness) (s : List ℕ) (rs : List Row) (last l : Last) → AllTaken e s rs last l → all_judged e s rs last ≡ Ok l
unfolding all_judged
taken-all e s [] last l g = ap Ok g
taken-all e s (r ∷ rs) last l g = ap (λ (j : Result Last Fault). on_judged j (all_judged e s rs)) (taken-row e s r g.0 g.1) ∙ taken-all e s rs g.0 l g.2

-- Rows that all have room.
abbrev pub AllFit : Header → List Row → Type 0
AllFit h [] = Unit {0}
AllFit h (r ∷ rs) = (row_fits h r ≡ true) × AllFit h rs

pub all_fit : (h : Header) (rs : List Row) (row : ℕ) → row + length rs ≤ first_unfit h rs row → AllFit h rs
unfolding first_unfit
all_fit h [] row k = tt
all_fit h (r ∷ rs) row k = go (row_fits h r) refl k (all_fit h rs (row + 1))
  where
    go : (b : Bool) → row_fits h r ≡ b → row + suc (length rs) ≤ (elim b as (λ c. ℕ) [ true ↦ first_unfit h rs (row + 1) | false ↦ row ])
        → (row + 1 + length rs ≤ first_unfit h rs (row + 1) → AllFit h rs)
        → AllFit h (r ∷ rs)
    go true q w f = (q, f (omega (arith, w)))
    go false q w f = absurd (omega (arith, w))

pub fit_all : (h : Header) (rs : List Row) (row : ℕ) → AllFit h rs → first_unfit h rs row ≡ row + length rs
unfolding first_unfit
fit_all h [] row k = omega arith
fit_all h (r ∷ rs) row k =
    let e : row + 1 + length rs ≡ row + suc (length rs) = omega arith in
    held _ _ k.0 ∙ fit_all h rs (row + 1) k.1 ∙ e

-- All that is asked.
pub record Accepts (h : Header) (s : List ℕ) (rs : List Row) (n : ℕ) : Type 0 where
  pub counts : DnaCounts
  pub taken : AllTaken h.endianness s rs None (Some counts)
  pub header : header_fits h ≡ true
  pub fit : AllFit h rs
  pub long : n ≡ file_length h rs
  pub small : n ≤ 2 ^ 64 - 1

module _ (h : Header) (s : List ℕ) (rs : List Row) (n : ℕ) where
  pub accepts : needed_for h s rs ≡ Ok n → Accepts h s rs n
  unfolding needed_for
  accepts g = last (all_judged h.endianness s rs None) refl g
    where
      count : (d : DnaCounts) → AllTaken h.endianness s rs None (Some d) → header_fits h ≡ true → AllFit h rs → (b : Bool) → ltb (2 ^ 64 - 1) (file_length h rs) ≡ b
          → (elim b as (λ c. (Result ℕ WritableError)) [ true ↦ Err (WritableError.Fault (Fault.Refusal ProductTooLarge)) | false ↦ Ok (file_length h rs) ]) ≡ Ok n → Accepts h s rs n
      count d t f a true q w =
          let y : ◌≡◌ {A = ℕ} 0 1 = cc in
          absurd (omega arith)
      count d t f a false q w =
          let x : n ≡ file_length h rs = cc in
          record { counts = d; taken = t; header = f; fit = a; long = x; small = rw x (ltb-false _ _ q) }

      rows : (d : DnaCounts) → AllTaken h.endianness s rs None (Some d) → header_fits h ≡ true → (b : Bool) → ltb (first_unfit h rs 0) (length rs) ≡ b
          → (elim b as (λ c. (Result ℕ WritableError)) [ true ↦ Err (WritableError.NoRoom (first_unfit h rs 0)) | false ↦ counted (file_length h rs) ]) ≡ Ok n → Accepts h s rs n
      rows d t f true q w =
          let y : ◌≡◌ {A = ℕ} 0 1 = cc in
          absurd (omega arith)
      rows d t f false q w = count d t f (all_fit h rs 0 (omega (arith, ltb-false (first_unfit h rs 0) (length rs) q))) (ltb (2 ^ 64 - 1) (file_length h rs)) refl w

      form : (d : DnaCounts) → AllTaken h.endianness s rs None (Some d) → (b : Bool) → header_fits h ≡ b
          → (elim b as (λ c. (Result ℕ WritableError)) [
            | true ↦ elim (ltb (first_unfit h rs 0) (length rs)) as (λ c. (Result ℕ WritableError)) [ true ↦ Err (WritableError.NoRoom (first_unfit h rs 0)) | false ↦ counted (file_length h rs) ]
            | false ↦ Err (WritableError.NoRoom (length rs))
          ])
          ≡ Ok n
          → Accepts h s rs n
      form d t true q w = rows d t q (ltb (first_unfit h rs 0) (length rs)) refl w
      form d t false q w =
          let y : ◌≡◌ {A = ℕ} 0 1 = cc in
          absurd (omega arith)

      last : (j : Result Last Fault) → all_judged h.endianness s rs None ≡ j → on_last j h rs ≡ Ok n → Accepts h s rs n
      last (Err f) q w =
          let y : ◌≡◌ {A = ℕ} 0 1 = cc in
          absurd (omega arith)
      last (Ok None) q w =
          let y : ◌≡◌ {A = ℕ} 0 1 = cc in
          absurd (omega arith)
      last (Ok (Some d)) q w = form d (all-taken h.endianness s rs None (Some d) q) (header_fits h) refl w

  pub accepted : Accepts h s rs n → needed_for h s rs ≡ Ok n
  unfolding needed_for
  accepted a =
      let f : length rs ≤ first_unfit h rs 0 = omega (arith, fit_all h rs 0 a.fit) in
      let b : file_length h rs ≤ 2 ^ 64 - 1 = rw (← a.long) a.small in
      ap (λ (j : Result Last Fault). on_last j h rs) (taken-all h.endianness s rs None (Some a.counts) a.taken) ∙ held _ _ a.header ∙ failed _ _ (le-ltb _ _ f)
      ∙ failed _ _ (le-ltb _ _ b)
      ∙ ap Ok (sym a.long)
