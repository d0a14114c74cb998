-- From what a method of the cursor answered to a tree that begins with that read: it goes on with what is left, or stops with the same fault.
use Prim.Native.Nat.{ℕ, ◌+◌, ◌-◌}
use mathlib.Core.Bool.{Bool, true, false}
use mathlib.Core.List.{List}
use mathlib.Core.Path.{◌≡◌, refl, sym, ◌∙◌, ap}
use native.Mathlib.Omega.{arith}
use lib.ListN.{length, take, drop}
use Rattle.std.specs.Prelude.{Some, None}
use Rattle.octets.specs.declared.Endianness.{Endianness}
use Rattle.octets.specs.declared.Fault.{Fault}
use Rattle.octets.specs.declared.Fault.TheVariants.{Cut, Mark}
use Rattle.octets.specs.declared.cursor.Cursor.{Cursor}
use Rattle.octets.specs.Cursor.{begun, part_of}
use Rattle.octets.specs.Number.{spelled, number, tag}
use Rattle.octets.specs.Reader.{Reader, Outcome, run, then, room, stands}
use Rattle.octets.specs.Reader.Reader.{done, bytes, skip, until, begins, stray}
use Rattle.octets.specs.Reader.Outcome.{read, fault}
use Rattle.octets.proofs.Reading.{onwards}
use Rattle.octets.proofs.Tests.{held, failed}
use Rattle.octets.proofs.Times.{goes_on, stops}

module _ {A : Type 0} (s : List ℕ) (at : ℕ) where
  module _ (e : Endianness) (w : ℕ) (k : ℕ → Reader A) where
    pub number-on : (n next : ℕ) → read n next ≡ run (number e w done) s at → run (number e w k) s at ≡ run (k n) s next
    unfolding then
    number-on n next h = goes_on (number e w done) k s at n next (sym h)

    pub number-stops : (x : Fault) → fault x ≡ run (number e w done) s at → run (number e w k) s at ≡ fault x
    unfolding then
    number-stops x h = stops (number e w done) k s at x (sym h)

  module _ (n : ℕ) (r : Reader A) where
    pub skip-on : (next : ℕ) → ◌≡◌ {A = Outcome (Unit {0})} (read tt next) (run (skip n (done tt)) s at) → run (skip n r) s at ≡ run r s next
    unfolding then
    skip-on next h = goes_on (skip n (done tt)) (λ u. r) s at tt next (sym h)

    pub skip-stops : (x : Fault) → ◌≡◌ {A = Outcome (Unit {0})} (fault x) (run (skip n (done tt)) s at) → run (skip n r) s at ≡ fault x
    unfolding then
    skip-stops x h = stops (skip n (done tt)) (λ u. r) s at x (sym h)

  module _ (c : ℕ) (k : ℕ → Reader A) where
    pub until-on : (n next : ℕ) → read n next ≡ run (until c done) s at → run (until c k) s at ≡ run (k n) s next
    unfolding then
    until-on n next h = goes_on (until c done) k s at n next (sym h)

    pub until-stops : (x : Fault) → fault x ≡ run (until c done) s at → run (until c k) s at ≡ fault x
    unfolding then
    until-stops x h = stops (until c done) k s at x (sym h)

-- what a tag comes to, by its two tests
tagged-by : {A : Type 0} → Bool → Bool → Outcome A → ℕ → Outcome A
tagged-by true true o at = o
tagged-by true false o at = fault (Mark at)
tagged-by false c o at = fault (Cut at)

tag_is : {A : Type 0} (m : List ℕ) (r : Reader A) (s : List ℕ) (at : ℕ) → run (tag m r) s at ≡ tagged-by (room s at (length m)) (stands s at m) (run r s (at + length m)) at
unfolding run tagged-by
tag_is {A} m r s at = go (room s at (length m)) (stands s at m) refl refl
  where
    go : (b c : Bool) → room s at (length m) ≡ b → stands s at m ≡ c → run (tag m r) s at ≡ tagged-by b c (run r s (at + length m)) at
    go true true t u = held _ _ t ∙ ap (λ (q : Reader A). run q s (at + length m)) (held r (stray (length m)) u)
    go true false t u =
        let e : at + length m - length m ≡ at = omega arith in
        held _ _ t ∙ ap (λ (q : Reader A). run q s (at + length m)) (failed r (stray (length m)) u) ∙ rw e
    go false c t u = failed _ _ t

module _ {A : Type 0} (s : List ℕ) (at : ℕ) (m : List ℕ) (r : Reader A) where
  pub tag-on : (next : ℕ) → ◌≡◌ {A = Outcome (Unit {0})} (read tt next) (run (tag m (done tt)) s at) → run (tag m r) s at ≡ run r s next
  unfolding run tagged-by
  tag-on next h = tag_is m r s at ∙ go (room s at (length m)) (stands s at m) (h ∙ tag_is m (done tt) s at)
    where
      go : (b c : Bool) → ◌≡◌ {A = Outcome (Unit {0})} (read tt next) (tagged-by b c (read tt (at + length m)) at) → tagged-by b c (run r s (at + length m)) at ≡ run r s next
      go true true e =
          let q : next ≡ at + length m = cc in
          rw q
      go true false e = cc
      go false c e = cc

  pub tag-stops : (x : Fault) → ◌≡◌ {A = Outcome (Unit {0})} (fault x) (run (tag m (done tt)) s at) → run (tag m r) s at ≡ fault x
  unfolding run tagged-by
  tag-stops x h = tag_is m r s at ∙ go (room s at (length m)) (stands s at m) (h ∙ tag_is m (done tt) s at)
    where
      go : (b c : Bool) → ◌≡◌ {A = Outcome (Unit {0})} (fault x) (tagged-by b c (read tt (at + length m)) at) → tagged-by b c (run r s (at + length m)) at ≡ fault x
      go true true e = cc
      go true false e = cc
      go false c e = cc

  -- a mark by the two tests: whether there is room for it, and whether it stands
  module _ (i : room s at (length m) ≡ true) where
    pub tag-stands : stands s at m ≡ true → run (tag m r) s at ≡ run r s (at + length m)
    unfolding tagged-by
    tag-stands e = tag_is m r s at ∙ rw (i, e) refl

    pub tag-wrong : stands s at m ≡ false → run (tag m r) s at ≡ fault (Mark at)
    unfolding tagged-by
    tag-wrong e = tag_is m r s at ∙ rw (i, e) refl

  pub tag-cut : room s at (length m) ≡ false → run (tag m r) s at ≡ fault (Cut at)
  unfolding tagged-by
  tag-cut i = tag_is m r s at ∙ rw i refl

  -- the same with a value that goes on
  pub tag-then : {B : Type 0} (f : B → Reader A) (b : B) → f b ≡ r → run (tag m r) s at ≡ onwards (run (tag m (done b)) s at) (λ c next. run (f c) s next)
  unfolding run tagged-by
  tag-then {B} f b e = ap (λ (q : Reader A). run (tag m q) s at) (sym e) ∙ tag_is m (f b) s at ∙ go (room s at (length m)) (stands s at m)
      ∙ ap (λ (o : Outcome B). onwards o (λ c next. run (f c) s next)) (sym (tag_is m (done b) s at))
    where
      go : (x y : Bool) → tagged-by x y (run (f b) s (at + length m)) at ≡ onwards (tagged-by x y (read b (at + length m)) at) (λ c next. run (f c) s next)
      go true true = refl
      go true false = refl
      go false y = refl

-- bytes that are read, and a mark that may be there
module _ {A : Type 0} (s : List ℕ) (at : ℕ) where
  module _ (n : ℕ) (k : List ℕ → Reader A) where
    pub bytes_on : (next : ℕ) → ◌≡◌ {A = Outcome (Unit {0})} (read tt next) (run (bytes n (λ b. done tt)) s at)
        → (run (bytes n k) s at ≡ run (k (take n (drop at s))) s next) × (part_of s at n ≡ take n (drop at s))
    unfolding run part_of
    bytes_on next h = go (room s at n) refl h
      where
        go : (t : Bool) → room s at n ≡ t
            → ◌≡◌ {A = Outcome (Unit {0})} (read tt next) (elim t as (λ (c : Bool). Outcome (Unit {0})) [ true ↦ read tt (at + n) | false ↦ fault (Cut at) ])
            → (run (bytes n k) s at ≡ run (k (take n (drop at s))) s next) × (part_of s at n ≡ take n (drop at s))
        go true e g =
            let q : next ≡ at + n = cc in
            (held _ _ e ∙ rw q refl, held _ _ e)
        go false e g = (cc, cc)

    pub bytes-stops : (x : Fault) → ◌≡◌ {A = Outcome (Unit {0})} (fault x) (run (bytes n (λ b. done tt)) s at) → run (bytes n k) s at ≡ fault x
    unfolding run
    bytes-stops x h = go (room s at n) refl h
      where
        go : (t : Bool) → room s at n ≡ t
            → ◌≡◌ {A = Outcome (Unit {0})} (fault x) (elim t as (λ (c : Bool). Outcome (Unit {0})) [ true ↦ read tt (at + n) | false ↦ fault (Cut at) ]) → run (bytes n k) s at ≡ fault x
        go true e g = cc
        go false e g = failed _ _ e ∙ cc

  module _ (m : List ℕ) (on off : Reader A) (here : Cursor) where
    pub begins-there : (next : Cursor) → begun here (Some next) ≡ run (begins m (done true) (done false)) s at → run (begins m on off) s at ≡ run on s next.at
    unfolding run
    begins-there next h = go (stands s at m) refl h
      where
        go : (u : Bool) → stands s at m ≡ u → ◌≡◌ {A = Outcome Bool} (read true next.at) (elim u as (λ (c : Bool). Outcome Bool) [ true ↦ read true (at + length m) | false ↦ read false at ])
            → run (begins m on off) s at ≡ run on s next.at
        go true e g =
            let q : next.at ≡ at + length m = cc in
            held _ _ e ∙ rw q refl
        go false e g = cc

    pub begins_not : begun here None ≡ run (begins m (done true) (done false)) s at → run (begins m on off) s at ≡ run off s at
    unfolding run
    begins_not h = go (stands s at m) refl h
      where
        go : (u : Bool) → stands s at m ≡ u → ◌≡◌ {A = Outcome Bool} (read false here.at) (elim u as (λ (c : Bool). Outcome Bool) [ true ↦ read true (at + length m) | false ↦ read false at ])
            → run (begins m on off) s at ≡ run off s at
        go true e g = cc
        go false e g = failed _ _ e

-- a number takes its bytes
pub number_moves : (e : Endianness) (s : List ℕ) (w at n next : ℕ) → run (number e w done) s at ≡ read n next → next ≡ at + w
unfolding run
number_moves e s w at n next h = go (room s at w) h
  where
    go : (b : Bool) → (elim b as (λ (c : Bool). Outcome ℕ) [ true ↦ read (spelled e (take w (drop at s))) (at + w) | false ↦ fault (Cut at) ]) ≡ read n next → next ≡ at + w
    go true k = cc
    go false k = cc
