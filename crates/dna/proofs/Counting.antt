-- The pass that counts: one turn of each of its loops, and how the sections of the tree go together.
use Prim.Native.Nat.{ℕ, zero, suc, ◌+◌, ◌*◌, ◌-◌, ◌<◌, ◌≤◌}
use mathlib.Core.List.{List, [], ◌∷◌}
use mathlib.Core.Path.{◌≡◌, refl, sym, ◌∙◌, ap}
use native.Mathlib.Nat.{mul-suc}
use native.Mathlib.Omega.{arith}
use lib.ListN.{length}
use Rattle.octets.specs.declared.Endianness.{Endianness}
use Rattle.octets.specs.declared.Fault.{Fault}
use Rattle.octets.specs.Ascii.{ascii}
use Rattle.octets.specs.Helpers.{past, leading}
use Rattle.octets.specs.Number.{number, tag}
use Rattle.octets.specs.Reader.{Reader, Outcome, run, string, then, times}
use Rattle.octets.specs.Reader.Reader.{done, skip}
use Rattle.octets.specs.Reader.Outcome.{read, fault}
use Rattle.octets.proofs.Extent.{ends-after}
use Rattle.octets.proofs.Times.{joined, one_more, none_yet, found-list, past-none, past_more, times-stops, past-read, past-fault, leading_more, goes_on, stops}
use Rattle.octets.proofs.Onward.{until-on, until-stops, skip-on, skip-stops, number-on, number-stops, number_moves, tag-on, tag-stops}
use Rattle.dna.specs.Catalogue.{Struct, text, padding, strings, listed, size, sized, field, struct, structured, field_count}
use Rattle.dna.specs.Passes.{headed, totalled}

-- one string, and its text
module _ (s : List ℕ) (at : ℕ) where
  pub place_read : (n next : ℕ) → read n next ≡ run (string done) s at → run text s at ≡ read (at, n) next
  unfolding run
  place_read n next h = until-on s at 0 (λ k. done (at, k)) n next h

  pub place-stops : (x : Fault) → fault x ≡ run (string done) s at → run text s at ≡ fault x
  unfolding run
  place-stops x h = until-stops s at 0 (λ k. done (at, k)) x h

-- the i-th of n turns of a loop over the same tree, and the end
module _ {A : Type 0} (r : Reader A) (s : List ℕ) (n i at : ℕ) where
  pub turn : i < n → (a : A) (next : ℕ) → run r s at ≡ read a next → past (run (times (n - i) r) s at) ≡ past (run (times (n - (i + 1)) r) s next)
  turn h a next e =
      let k : suc (n - (i + 1)) ≡ n - i = omega arith in
      rw k at (past_more r s (n - (i + 1)) at a next e)

  pub turn-stops : i < n → (x : Fault) → run r s at ≡ fault x → fault x ≡ past (run (times (n - i) r) s at)
  turn-stops h x e =
      let k : suc (n - (i + 1)) ≡ n - i = omega arith in
      sym (ap past (rw k at (times-stops r s (n - (i + 1)) at x e)))

  pub turn_last : n ≤ i → read tt at ≡ past (run (times (n - i) r) s at)
  turn_last h =
      let k : n - i ≡ 0 = omega arith in
      rw k (past-none r s at)

  -- what it finds, from the front
  pub leading_next : i < n → (a : A) (next : ℕ) → run r s at ≡ read a next → leading (n - i) r s at ≡ a ∷ leading (n - (i + 1)) r s next
  leading_next h a next e =
      let k : n - i - 1 ≡ n - (i + 1) = omega arith in
      rw k at (leading_more r s (n - i) at (omega arith) a next e)

-- what n turns of a tree came to, where they came to an end
module _ {A : Type 0} (r : Reader A) (s : List ℕ) (n at end : ℕ) (h : read tt end ≡ past (run (times n r) s at)) where
  all_read : run (times n r) s at ≡ read (leading n r s at) end
  all_read = (past-read r s n at end (sym h)).0

  pub all-many : length (leading n r s at) ≡ n
  all-many = (past-read r s n at end (sym h)).1

  pub all_after : at ≤ end
  all_after = ends-after (times n r) s at _ end all_read

  pub all-on : {B : Type 0} (f : List A → Reader B) → run (then (times n r) f) s at ≡ run (f (leading n r s at)) s end
  all-on f = goes_on (times n r) f s at _ end all_read

pub all_stop : {A B : Type 0} (r : Reader A) (s : List ℕ) (n at : ℕ) (x : Fault) (f : List A → Reader B) → fault x ≡ past (run (times n r) s at)
    → run (then (times n r) f) s at ≡ fault x
all_stop r s n at x f h = stops (times n r) f s at x (past-fault r s n at x (sym h))

-- strings and their padding
module _ (s : List ℕ) (n at : ℕ) where
  pub strings_stop : (x : Fault) → fault x ≡ past (run (times n text) s at) → run (strings n) s at ≡ fault x
  unfolding strings run
  strings_stop x h = all_stop text s n at x _ h

  module _ (end : ℕ) (h : read tt end ≡ past (run (times n text) s at)) where
    on-strings : run (strings n) s at ≡ run (skip (padding (end - at)) (done (leading n text s at))) s end
    unfolding strings run
    on-strings = all-on text s n at end h _

    module _ (p : ℕ) (e : p ≡ padding (end - at)) where
      pub padding-stops : (x : Fault) → ◌≡◌ {A = Outcome (Unit {0})} (fault x) (run (skip p (done tt)) s end) → run (strings n) s at ≡ fault x
      padding-stops x k = on-strings ∙ skip-stops s end _ _ x (rw e at k)

      pub padding-read : (next : ℕ) → ◌≡◌ {A = Outcome (Unit {0})} (read tt next) (run (skip p (done tt)) s end) → run (strings n) s at ≡ read (leading n text s at) next
      unfolding run
      padding-read next k = on-strings ∙ skip-on s end (padding (end - at)) (done (leading n text s at)) next (rw e at k)

-- a tree that takes as many bytes wherever it reads takes n times as many in n turns
module _ {A : Type 0} (r : Reader A) (s : List ℕ) (w : ℕ) (fixed : (at : ℕ) (a : A) (next : ℕ) → run r s at ≡ read a next → next ≡ at + w) where
  pub all_move : (n at end : ℕ) → read tt end ≡ past (run (times n r) s at) → end ≡ at + w * n
  all_move zero at end h =
      let k : ◌≡◌ {A = Outcome (Unit {0})} (read tt end) (read tt at) = h ∙ sym (past-none r s at) in
      let q : end ≡ at = cc in
      omega arith
  all_move (suc n) at end h = go (run r s at) refl (all_move n)
    where
      go : (o : Outcome A) → run r s at ≡ o → ((from stop : ℕ) → read tt stop ≡ past (run (times n r) s from) → stop ≡ from + w * n) → end ≡ at + w * suc n
      go (read a next) t f = omega (arith, fixed at a next t, f next end (h ∙ past_more r s n at a next t), mul-suc w n)
      go (fault x) t f =
          let k : ◌≡◌ {A = Outcome (Unit {0})} (read tt end) (fault x) = h ∙ ap past (times-stops r s n at x t) in
          cc

module _ (e : Endianness) (s : List ℕ) (m at : ℕ) where
  pub no_tlen : (x : Fault) → ◌≡◌ {A = Outcome (Unit {0})} (fault x) (run (tag (ascii "TLEN") (done tt)) s at) → run (sized e m) s at ≡ fault x
  unfolding sized
  no_tlen x h = tag-stops s at (ascii "TLEN") _ x h

  module _ (from : ℕ) (t : ◌≡◌ {A = Outcome (Unit {0})} (read tt from) (run (tag (ascii "TLEN") (done tt)) s at)) where
    pub sizes_stop : (x : Fault) → fault x ≡ past (run (times m (size e)) s from) → run (sized e m) s at ≡ fault x
    unfolding sized
    sizes_stop x h = tag-on s at (ascii "TLEN") _ from t ∙ all_stop (size e) s m from x _ h

    module _ (end : ℕ) (h : read tt end ≡ past (run (times m (size e)) s from)) (p : ℕ) (q : p ≡ padding (end - from)) where
      same-padding : p ≡ padding (2 * m)
      same-padding =
          let k : end - from ≡ 2 * m = omega (arith, all_move (size e) s 2 (number_moves e s 2) m from end h) in
          rw k at q

      on-sizes : run (sized e m) s at ≡ run (skip (padding (2 * m)) (done (leading m (size e) s from))) s end
      unfolding sized
      on-sizes = tag-on s at (ascii "TLEN") _ from t ∙ all-on (size e) s m from end h _

      pub sizes-padding-stops : (x : Fault) → ◌≡◌ {A = Outcome (Unit {0})} (fault x) (run (skip p (done tt)) s end) → run (sized e m) s at ≡ fault x
      sizes-padding-stops x k = on-sizes ∙ skip-stops s end (padding (2 * m)) (done (leading m (size e) s from)) x (rw same-padding at k)

      pub sizes-read : (next : ℕ) → ◌≡◌ {A = Outcome (Unit {0})} (read tt next) (run (skip p (done tt)) s end) → run (sized e m) s at ≡ read (leading m (size e) s from) next
      unfolding run
      sizes-read next k = on-sizes ∙ skip-on s end (padding (2 * m)) (done (leading m (size e) s from)) next (rw same-padding at k)

-- a field record, and a struct past its fields
module _ (e : Endianness) (s : List ℕ) (at : ℕ) where
  pub field-stops : (x : Fault) → fault x ≡ run (number e 2 done) s at → fault x ≡ run (field e) s at
  field-stops x h = sym (number-stops s at e 2 (λ t. number e 2 (λ n. done (t, n))) x h)

  module _ (t next : ℕ) (h : read t next ≡ run (number e 2 done) s at) where
    pub field-stops_later : (x : Fault) → fault x ≡ run (number e 2 done) s next → fault x ≡ run (field e) s at
    field-stops_later x k = sym (number-on s at e 2 (λ t. number e 2 (λ n. done (t, n))) t next h ∙ number-stops s next e 2 (λ n. done (t, n)) x k)

    pub field-read : (n last : ℕ) → read n last ≡ run (number e 2 done) s next → read (t, n) last ≡ run (field e) s at
    unfolding run
    field-read n last k = sym (number-on s at e 2 (λ t. number e 2 (λ n. done (t, n))) t next h ∙ number-on s next e 2 (λ n. done (t, n)) n last k)

  after-count : ℕ → ℕ → Reader Struct
  after-count t n = then (times n (field e)) (λ fs. done (t, fs))

  pub struct-stops : (x : Fault) → fault x ≡ run (number e 2 done) s at → run (struct e) s at ≡ fault x
  unfolding struct after-count
  struct-stops x h = number-stops s at e 2 (λ u. number e 2 (after-count u)) x h

  module _ (t next : ℕ) (h : read t next ≡ run (number e 2 done) s at) where
    pub struct-stops_later : (x : Fault) → fault x ≡ run (number e 2 done) s next → run (struct e) s at ≡ fault x
    unfolding struct after-count
    struct-stops_later x k = number-on s at e 2 (λ u. number e 2 (after-count u)) t next h ∙ number-stops s next e 2 (after-count t) x k

    module _ (n from : ℕ) (k : read n from ≡ run (number e 2 done) s next) where
      on_struct : run (struct e) s at ≡ run (after-count t n) s from
      unfolding struct after-count
      on_struct = number-on s at e 2 (λ u. number e 2 (after-count u)) t next h ∙ number-on s next e 2 (after-count t) n from k

      pub struct-stops-fields : (x : Fault) → fault x ≡ past (run (times n (field e)) s from) → run (struct e) s at ≡ fault x
      unfolding after-count
      struct-stops-fields x g = on_struct ∙ all_stop (field e) s n from x _ g

      pub struct-read : (last : ℕ) → read tt last ≡ past (run (times n (field e)) s from) → run (struct e) s at ≡ read (t, leading n (field e) s from) last
      unfolding after-count run
      struct-read last g = on_struct ∙ all-on (field e) s n from last g _

-- a list after its mark
module _ (e : Endianness) (m s : List ℕ) (at : ℕ) where
  pub listed-stops : (x : Fault) → ◌≡◌ {A = Outcome (Unit {0})} (fault x) (run (tag m (done tt)) s at) → run (listed e m) s at ≡ fault x
  unfolding listed
  listed-stops x h = tag-stops s at m (number e 4 strings) x h

  module _ (next : ℕ) (h : ◌≡◌ {A = Outcome (Unit {0})} (read tt next) (run (tag m (done tt)) s at)) where
    pub no-count : (x : Fault) → fault x ≡ run (number e 4 done) s next → run (listed e m) s at ≡ fault x
    unfolding listed
    no-count x k = tag-on s at m (number e 4 strings) next h ∙ number-stops s next e 4 strings x k

    pub listed-on : (n from : ℕ) → read n from ≡ run (number e 4 done) s next → run (listed e m) s at ≡ run (strings n) s from
    unfolding listed
    listed-on n from k = tag-on s at m (number e 4 strings) next h ∙ number-on s next e 4 strings n from k

-- where a field record and a struct's fields end
pub field_moves : (e : Endianness) (s : List ℕ) (at : ℕ) (f : ℕ × ℕ) (next : ℕ) → run (field e) s at ≡ read f next → next ≡ at + 4
field_moves e s at f next h = first_part (run (number e 2 done) s at) refl
  where
    second-part : (t mid : ℕ) → run (number e 2 done) s at ≡ read t mid → (o : Outcome ℕ) → run (number e 2 done) s mid ≡ o → next ≡ at + 4
    second-part t mid k (read n last) g =
        let q : read (t, n) last ≡ read f next = field-read e s at t mid (sym k) n last (sym g) ∙ h in
        let z : last ≡ next = cc in
        omega (arith, number_moves e s 2 at t mid k, number_moves e s 2 mid n last g)
    second-part t mid k (fault x) g =
        let q : fault x ≡ read f next = field-stops_later e s at t mid (sym k) x (sym g) ∙ h in
        cc

    first_part : (o : Outcome ℕ) → run (number e 2 done) s at ≡ o → next ≡ at + 4
    first_part (read t mid) k = second-part t mid k (run (number e 2 done) s mid) refl
    first_part (fault x) k =
        let q : fault x ≡ read f next = field-stops e s at x (sym k) ∙ h in
        cc

module _ (e : Endianness) (s : List ℕ) (at t next n from last : ℕ) (h : read t next ≡ run (number e 2 done) s at) (k : read n from ≡ run (number e 2 done) s next)
    (g : read tt last ≡ past (run (times n (field e)) s from)) where
  pub struct-headed : headed (run (struct e) s at) ≡ read (t, n) last
  struct-headed = ap headed (struct-read e s at t next h n from k last g) ∙ ap (λ (m : ℕ). read (t, m) last) (all-many (field e) s n from last g)

-- what a struct's head tells of it
pub headed-read : (o : Outcome Struct) (t n next : ℕ) → headed o ≡ read (t, n) next → (u : Struct) × (o ≡ read u next) × (u.0 ≡ t) × (length u.1 ≡ n)
headed-read (read u end) t n next h =
    let q : ◌≡◌ {A = ℕ × ℕ} (u.0, length u.1) (t, n) = cc in
    (u, cc, ap (λ (p : ℕ × ℕ). p.0) q, ap (λ (p : ℕ × ℕ). p.1) q)
headed-read (fault x) t n next h = ((0, []), cc, cc, cc)

-- where a struct's fields stand
pub struct_fields : (e : Endianness) (s : List ℕ) (at : ℕ) (u : Struct) (end : ℕ) → run (struct e) s at ≡ read u end → u.1 ≡ leading (length u.1) (field e) s (at + 4)
struct_fields e s at u end h = one (run (number e 2 done) s at) refl
  where
    three : (t next n from : ℕ) → run (number e 2 done) s at ≡ read t next → run (number e 2 done) s next ≡ read n from → (o : Outcome (Unit {0})) → past (run (times n (field e)) s from) ≡ o
        → u.1 ≡ leading (length u.1) (field e) s (at + 4)
    three t next n from k g (read v last) p =
        let q : read (t, leading n (field e) s from) last ≡ read u end = sym (struct-read e s at t next (sym k) n from (sym g) last (sym p)) ∙ h in
        let w : u ≡ (t, leading n (field e) s from) = cc in
        let f : from ≡ at + 4 = omega (arith, number_moves e s 2 at t next k, number_moves e s 2 next n from g) in
        let l : length (leading n (field e) s from) ≡ n = all-many (field e) s n from last (sym p) in
        rw (w, l, f)
    three t next n from k g (fault x) p =
        let q : fault x ≡ read u end = sym (struct-stops-fields e s at t next (sym k) n from (sym g) x (sym p)) ∙ h in
        cc

    two : (t next : ℕ) → run (number e 2 done) s at ≡ read t next → (o : Outcome ℕ) → run (number e 2 done) s next ≡ o → u.1 ≡ leading (length u.1) (field e) s (at + 4)
    two t next k (read n from) g = three t next n from k g (past (run (times n (field e)) s from)) refl
    two t next k (fault x) g =
        let q : fault x ≡ read u end = sym (struct-stops_later e s at t next (sym k) x (sym g)) ∙ h in
        cc

    one : (o : Outcome ℕ) → run (number e 2 done) s at ≡ o → u.1 ≡ leading (length u.1) (field e) s (at + 4)
    one (read t next) k = two t next k (run (number e 2 done) s next) refl
    one (fault x) k =
        let q : fault x ≡ read u end = sym (struct-stops e s at x (sym k)) ∙ h in
        cc

-- one turn of the loop over the structs
module _ (e : Endianness) (s : List ℕ) (m i at k : ℕ) where
  pub total_more : i < m → (t n next : ℕ) → headed (run (struct e) s at) ≡ read (t, n) next
      → totalled k (run (times (m - i) (struct e)) s at) ≡ totalled (k + n) (run (times (m - (i + 1)) (struct e)) s next)
  unfolding field_count
  total_more h t n next g =
      let w = headed-read (run (struct e) s at) t n next g in
      let q : suc (m - (i + 1)) ≡ m - i = omega arith in
      ap (totalled k) (rw q at (one_more (struct e) s (m - (i + 1)) at w.0 next w.1)) ∙ by w.0 w.3 (run (times (m - (i + 1)) (struct e)) s next)
    where
      by : (u : Struct) → length u.1 ≡ n → (o : Outcome (List Struct)) → totalled k (joined (struct e) s u o) ≡ totalled (k + n) o
      by u z (read ts end) =
          let a : k + (length u.1 + field_count ts) ≡ k + n + field_count ts = omega arith in
          rw a
      by u z (fault x) = refl

  pub total_stops : i < m → (x : Fault) → run (struct e) s at ≡ fault x → fault x ≡ totalled k (run (times (m - i) (struct e)) s at)
  total_stops h x g =
      let q : suc (m - (i + 1)) ≡ m - i = omega arith in
      sym (ap (totalled k) (rw q at (times-stops (struct e) s (m - (i + 1)) at x g)))

  pub total_last : m ≤ i → read k at ≡ totalled k (run (times (m - i) (struct e)) s at)
  unfolding field_count
  total_last h =
      let q : m - i ≡ 0 = omega arith in
      let z : k + 0 ≡ k = omega arith in
      rw (q, none_yet (struct e) s at, z)

-- the structs after their mark and their count
module _ (e : Endianness) (s : List ℕ) (at : ℕ) where
  pub no_strc : (x : Fault) → ◌≡◌ {A = Outcome (Unit {0})} (fault x) (run (tag (ascii "STRC") (done tt)) s at) → run (structured e) s at ≡ fault x
  unfolding structured
  no_strc x h = tag-stops s at (ascii "STRC") (number e 4 (λ n. times n (struct e))) x h

  module _ (next : ℕ) (t : ◌≡◌ {A = Outcome (Unit {0})} (read tt next) (run (tag (ascii "STRC") (done tt)) s at)) where
    pub no-struct-count : (x : Fault) → fault x ≡ run (number e 4 done) s next → run (structured e) s at ≡ fault x
    unfolding structured
    no-struct-count x h = tag-on s at (ascii "STRC") (number e 4 (λ n. times n (struct e))) next t ∙ number-stops s next e 4 (λ n. times n (struct e)) x h

    module _ (n from : ℕ) (h : read n from ≡ run (number e 4 done) s next) where
      on-structs : run (structured e) s at ≡ run (times n (struct e)) s from
      unfolding structured
      on-structs = tag-on s at (ascii "STRC") (number e 4 (λ n. times n (struct e))) next t ∙ number-on s next e 4 (λ n. times n (struct e)) n from h

      pub structs_stop : (x : Fault) → fault x ≡ totalled 0 (run (times n (struct e)) s from) → run (structured e) s at ≡ fault x
      structs_stop x g = on-structs ∙ go (run (times n (struct e)) s from) g
        where
          go : (o : Outcome (List Struct)) → fault x ≡ totalled 0 o → o ≡ fault x
          go (read ts end) q = cc
          go (fault y) q = cc

      pub structs-read : (fields last : ℕ) → read fields last ≡ totalled 0 (run (times n (struct e)) s from)
          → (run (structured e) s at ≡ read (leading n (struct e) s from) last) × (length (leading n (struct e) s from) ≡ n) × (field_count (leading n (struct e) s from) ≡ fields)
      structs-read fields last g = go (run (times n (struct e)) s from) refl g
        where
          go : (o : Outcome (List Struct)) → run (times n (struct e)) s from ≡ o → read fields last ≡ totalled 0 o
              → (run (structured e) s at ≡ read (leading n (struct e) s from) last) × (length (leading n (struct e) s from) ≡ n) × (field_count (leading n (struct e) s from) ≡ fields)
          go (read ts end) u q =
              let w = found-list (struct e) s n from ts end u in
              let f : fields ≡ 0 + field_count ts = cc in
              let l : last ≡ end = cc in
              (on-structs ∙ u ∙ rw (w.0, l), rw w.0 w.1, rw w.0 (omega arith))
          go (fault y) u q = (cc, cc, cc)
