-- Laws of the header's tree: one of two marks, the parts of each edition, and how far a header goes.
use Prim.Native.Nat.{ℕ, ◌+◌, ◌≤◌}
use mathlib.Core.Bool.{Bool, true, false}
use mathlib.Core.List.{List, [], ◌∷◌, ◌++◌}
use mathlib.Core.Path.{◌≡◌, refl, sym, ◌∙◌, ap}
use native.Mathlib.Omega.{arith}
use lib.ListN.{length, take, drop, length-take}
use Rattle.std.specs.Prelude.{Option, Some, None}
use Rattle.octets.specs.declared.Endianness.{Endianness}
use Rattle.octets.specs.declared.Endianness.TheVariants.{Little, Big}
use Rattle.octets.specs.declared.Fault.{Fault}
use Rattle.octets.specs.declared.Fault.TheVariants.{Cut}
use Rattle.octets.specs.declared.PointerSize.{PointerSize}
use Rattle.octets.specs.declared.PointerSize.TheVariants.{Bits32, Bits64}
use Rattle.octets.specs.declared.Refusal.TheVariants.{CompressedFileNotSupported}
use Rattle.octets.specs.declared.cursor.Cursor.{Cursor}
use Rattle.octets.specs.Ascii.{ascii}
use Rattle.octets.specs.Cursor.{begun, part_of}
use Rattle.octets.specs.Number.{tag}
use Rattle.octets.specs.Reader.{Reader, Outcome, run, room, stands}
use Rattle.octets.specs.Reader.Reader.{done, refuse, bytes, begins}
use Rattle.octets.specs.Reader.Outcome.{read, fault}
use Rattle.octets.proofs.Onward.{tag-on, tag-stops, tag-then, bytes_on, bytes-stops, begins-there, begins_not}
use Rattle.octets.proofs.Reading.{onwards, begins_in, begins-out}
use Rattle.header.specs.declared.FileFormat.{FileFormat}
use Rattle.header.specs.declared.FileFormat.TheVariants.{Legacy, New}
use Rattle.header.specs.declared.Header.{Header}
use Rattle.header.specs.declared.Version.{Version}
use Rattle.header.specs.Header.{Part, parts, parts_length, with_pointer, with_order, with_unchecked, with_version, parts_read, untold, header_length, HeaderBytes, one_of, order_mark, pointer_mark, version_of, valued, legacy, new, header_bytes}
use Rattle.header.specs.Header.Part.{pointer_size, byte_order, unchecked, version}
use Rattle.header.specs.Helpers.{version_length, ordered}
use Rattle.octets.proofs.Going.{bytes_go, tag_goes}

pub read_same : {A : Type 0} (a b : A) (next : ℕ) → a ≡ b → read a next ≡ read b next
read_same {A} a b next e = ap (λ (c : A). read c next) e

-- one of two marks, from what the cursor answered
module _ {A : Type 0} (m : List ℕ) (x : A) (n : List ℕ) (y : A) (s : List ℕ) (at : ℕ) (c : Cursor) where
  pub first-mark : (next : Cursor) → begun c (Some next) ≡ run (begins m (done true) (done false)) s at → read x next.at ≡ run (one_of m x n y done) s at
  unfolding run
  first-mark next h = sym (begins-there s at m (done x) (tag n (done y)) c next h)

  module _ (h : begun c None ≡ run (begins m (done true) (done false)) s at) where
    pub second-mark : (next : ℕ) → ◌≡◌ {A = Outcome (Unit {0})} (read tt next) (run (tag n (done tt)) s at) → read y next ≡ run (one_of m x n y done) s at
    unfolding run
    second-mark next k = sym (begins_not s at m (done x) (tag n (done y)) c h ∙ tag-on s at n (done y) next k)

    pub no-mark : (f : Fault) → ◌≡◌ {A = Outcome (Unit {0})} (fault f) (run (tag n (done tt)) s at) → fault f ≡ run (one_of m x n y done) s at
    no-mark f k = sym (begins_not s at m (done x) (tag n (done y)) c h ∙ tag-stops s at n (done y) f k)

-- and then what goes by the mark
module _ {A B : Type 0} (m : List ℕ) (x : A) (n : List ℕ) (y : A) (k : A → Reader B) (s : List ℕ) (at : ℕ) where
  one_then : run (one_of m x n y k) s at ≡ onwards (run (one_of m x n y done) s at) (λ a next. run (k a) s next)
  unfolding run
  one_then = go (stands s at m) refl
    where
      go : (t : Bool) → stands s at m ≡ t → run (one_of m x n y k) s at ≡ onwards (run (one_of m x n y done) s at) (λ a next. run (k a) s next)
      go true e =
          begins_in m (k x) (tag n (k y)) s at e
          ∙ ap (λ (o : Outcome A). onwards o (λ a next. run (k a) s next)) (sym (begins_in m (done x) (tag n (done y)) s at e))
      go false e =
          begins-out m (k x) (tag n (k y)) s at e ∙ tag-then s at n (k y) k y refl
          ∙ ap (λ (o : Outcome A). onwards o (λ a next. run (k a) s next)) (sym (begins-out m (done x) (tag n (done y)) s at e))

  pub one_on : (a : A) (next : ℕ) → read a next ≡ run (one_of m x n y done) s at → run (one_of m x n y k) s at ≡ run (k a) s next
  one_on a next h = one_then ∙ ap (λ (o : Outcome A). onwards o (λ a next. run (k a) s next)) (sym h)

  pub one-stops : (f : Fault) → fault f ≡ run (one_of m x n y done) s at → run (one_of m x n y k) s at ≡ fault f
  one-stops f h = one_then ∙ ap (λ (o : Outcome A). onwards o (λ a next. run (k a) s next)) (sym h)

-- a version of n bytes, and what is made of the same bytes
module _ (s : List ℕ) (at n : ℕ) where
  pub version-stops : (f : Fault) → ◌≡◌ {A = Outcome (Unit {0})} (fault f) (run (bytes n (λ b. done tt)) s at) → fault f ≡ run (bytes n (λ v. done (version_of v))) s at
  version-stops f h = sym (bytes-stops s at n (λ v. done (version_of v)) f h)

  pub part-short : (m : ℕ) → n ≤ m → (p : List ℕ) → p ≡ part_of s at n → length p ≤ m
  unfolding part_of
  part-short m l p e = go (room s at n) e
    where
      go : (t : Bool) → p ≡ (elim t as (λ (c : Bool). List ℕ) [ true ↦ take n (drop at s) | false ↦ [] ]) → length p ≤ m
      go true g = rw g (omega (arith, length-take n (drop at s)))
      go false g = rw g (omega arith)

  pub version-is : (next : ℕ) → ◌≡◌ {A = Outcome (Unit {0})} (read tt next) (run (bytes n (λ b. done tt)) s at)
      → (p : List ℕ) → p ≡ part_of s at n → (v : Version) → v ≡ version_of p → read v next ≡ run (bytes n (λ w. done (version_of w))) s at
  unfolding run
  version-is next h p e v g =
      let w = bytes_on s at n (λ w. done (version_of w)) next h in
      sym (w.0 ∙ ap (λ (l : List ℕ). read (version_of l) next) (sym (e ∙ w.1)) ∙ ap (λ (u : Version). read u next) (sym g))

-- a header with a version that was read, whatever its unchecked bytes are
abbrev pub header_made : FileFormat → PointerSize → Endianness → Version → Header
header_made f p e v = record { pointer_size = p; endianness = e; version = v; format = f }

abbrev pub made : FileFormat → PointerSize → Endianness → Outcome Version → Outcome Header
made f p e (read v next) = read (header_made f p e v) next
made f p e (fault x) = fault x

module _ (f : FileFormat) (p : PointerSize) (e : Endianness) (u s : List ℕ) (at n : ℕ) where
  last-part : Reader HeaderBytes
  last-part = bytes n (λ v. done (record { format = f; pointer = p; order = e; unchecked = u; version = v }))

  version-made : valued (run last-part s at) ≡ made f p e (run (bytes n (λ v. done (version_of v))) s at)
  unfolding run last-part
  version-made = go (room s at n)
    where
      go : (t : Bool)
          → valued
          (elim t as (λ (c : Bool). Outcome HeaderBytes) [ true ↦ read (record { format = f; pointer = p; order = e; unchecked = u; version = take n (drop at s) }) (at + n) | false ↦ fault (Cut at) ])
          ≡ made f p e (elim t as (λ (c : Bool). Outcome Version) [ true ↦ read (version_of (take n (drop at s))) (at + n) | false ↦ fault (Cut at) ])
      go true = refl
      go false = refl

-- the last two parts, in either edition
module _ (f : FileFormat) (p : PointerSize) (u s : List ℕ) (at : ℕ) where
  on-order : Endianness → Reader HeaderBytes
  on-order e = last-part f p e u s at (version_length f)

  pub no-order : (x : Fault) → fault x ≡ run (order_mark done) s at → fault x ≡ valued (run (ordered f p u) s at)
  unfolding ordered on-order last-part
  no-order x h = sym (ap valued (one-stops (ascii "v") Little (ascii "V") Big on-order s at x h))

  pub order-made : (e : Endianness) (next : ℕ) → read e next ≡ run (order_mark done) s at
      → made f p e (run (bytes (version_length f) (λ v. done (version_of v))) s next) ≡ valued (run (ordered f p u) s at)
  unfolding ordered on-order last-part
  order-made e next h = sym (ap valued (one_on (ascii "v") Little (ascii "V") Big on-order s at e next h) ∙ version-made f p e u s next (version_length f))

-- New, after the magic
module _ (s : List ℕ) (at : ℕ) where
  on-mark : List ℕ → PointerSize → Reader HeaderBytes
  on-mark a p = bytes 2 (λ b. ordered New p (a ++ b))

  pub new-no-bytes : (x : Fault) → ◌≡◌ {A = Outcome (Unit {0})} (fault x) (run (bytes 2 (λ b. done tt)) s at) → fault x ≡ valued (run new s at)
  unfolding new ordered on-mark
  new-no-bytes x h = sym (ap valued (bytes-stops s at 2 (λ a. pointer_mark (on-mark a)) x h))

  module _ (mark : ℕ) (h : ◌≡◌ {A = Outcome (Unit {0})} (read tt mark) (run (bytes 2 (λ b. done tt)) s at)) where
    on-first : run new s at ≡ run (pointer_mark (on-mark (take 2 (drop at s)))) s mark
    unfolding new ordered on-mark
    on-first = (bytes_on s at 2 (λ a. pointer_mark (on-mark a)) mark h).0

    pub new-no-mark : (x : Fault) → fault x ≡ run (pointer_mark done) s mark → fault x ≡ valued (run new s at)
    new-no-mark x g = sym (ap valued (on-first ∙ one-stops (ascii "_") Bits32 (ascii "-") Bits64 (on-mark (take 2 (drop at s))) s mark x g))

    module _ (p : PointerSize) (next : ℕ) (g : read p next ≡ run (pointer_mark done) s mark) where
      on-pointer : run new s at ≡ run (on-mark (take 2 (drop at s)) p) s next
      on-pointer = on-first ∙ one_on (ascii "_") Bits32 (ascii "-") Bits64 (on-mark (take 2 (drop at s))) s mark p next g

      pub new-cut : (x : Fault) → ◌≡◌ {A = Outcome (Unit {0})} (fault x) (run (bytes 2 (λ b. done tt)) s next) → fault x ≡ valued (run new s at)
      unfolding on-mark
      new-cut x k = sym (ap valued (on-pointer ∙ bytes-stops s next 2 (λ b. ordered New p (take 2 (drop at s) ++ b)) x k))

      pub new-made : (last : ℕ) → ◌≡◌ {A = Outcome (Unit {0})} (read tt last) (run (bytes 2 (λ b. done tt)) s next)
          → (r : Outcome Header) → ((u : List ℕ) → r ≡ valued (run (ordered New p u) s last)) → r ≡ valued (run new s at)
      unfolding on-mark
      new-made last k r w =
          w (take 2 (drop at s) ++ take 2 (drop next s)) ∙ sym (ap valued (on-pointer ∙ (bytes_on s next 2 (λ b. ordered New p (take 2 (drop at s) ++ b)) last k).0))

-- the whole, from what stands at its front
module _ (s : List ℕ) (start : Cursor) (o : Option Cursor) (h : begun start o ≡ run (begins (ascii "BLENDER") (done true) (done false)) s 0) where
  after-magic : Reader HeaderBytes
  after-magic = begins (ascii "_") (legacy Bits32) (begins (ascii "-") (legacy Bits64) new)

  pub no-magic : o ≡ None → fault (Fault.Refusal CompressedFileNotSupported) ≡ valued (run header_bytes s 0)
  unfolding header_bytes run after-magic
  no-magic t = sym (ap valued (begins_not s 0 (ascii "BLENDER") after-magic (refuse CompressedFileNotSupported) start (ap (begun start) (sym t) ∙ h)))

  module _ (c : Cursor) (t : o ≡ Some c) where
    on-magic : run header_bytes s 0 ≡ run after-magic s c.at
    unfolding header_bytes after-magic
    on-magic = begins-there s 0 (ascii "BLENDER") after-magic (refuse CompressedFileNotSupported) start c (ap (begun start) (sym t) ∙ h)

    pub header-short : (next : Cursor) → begun c (Some next) ≡ run (begins (ascii "_") (done true) (done false)) s c.at → valued (run (ordered Legacy Bits32 []) s next.at) ≡ valued (run header_bytes s 0)
    unfolding after-magic legacy ordered
    header-short next g = sym (ap valued (on-magic ∙ begins-there s _ (ascii "_") (legacy Bits32) (begins (ascii "-") (legacy Bits64) new) c next g))

    module _ (g : begun c None ≡ run (begins (ascii "_") (done true) (done false)) s c.at) where
      on-short : run header_bytes s 0 ≡ run (begins (ascii "-") (legacy Bits64) new) s c.at
      unfolding after-magic
      on-short = on-magic ∙ begins_not s _ (ascii "_") (legacy Bits32) (begins (ascii "-") (legacy Bits64) new) c g

      pub header-long : (next : Cursor) → begun c (Some next) ≡ run (begins (ascii "-") (done true) (done false)) s c.at → valued (run (ordered Legacy Bits64 []) s next.at) ≡ valued (run header_bytes s 0)
      unfolding legacy ordered
      header-long next k = sym (ap valued (on-short ∙ begins-there s _ (ascii "-") (legacy Bits64) new c next k))

      pub header-new : begun c None ≡ run (begins (ascii "-") (done true) (done false)) s c.at → valued (run new s c.at) ≡ valued (run header_bytes s 0)
      header-new k = sym (ap valued (on-short ∙ begins_not s _ (ascii "-") (legacy Bits64) new c k))

-- How far a header goes: each part is as long as it says.
one_goes : {A B : Type 0} (m : List ℕ) (x : A) (n : List ℕ) (y : A) (k : A → Reader B) (s : List ℕ) (at : ℕ) (b : B) (next : ℕ) → length n ≡ length m
    → run (one_of m x n y k) s at ≡ read b next → (a : A) × (run (k a) s (at + length m) ≡ read b next)
one_goes m x n y k s at b next e h = go (stands s at m) refl
  where
    go : (t : Bool) → stands s at m ≡ t → (a : _) × (run (k a) s (at + length m) ≡ read b next)
    go true u = (x, sym (begins_in m (k x) (tag n (k y)) s at u) ∙ h)
    go false u = (y, rw (← e) (tag_goes n (k y) s at b next (sym (begins-out m (k x) (tag n (k y)) s at u) ∙ h)))

ends-here : (d b : HeaderBytes) (s : List ℕ) (at next : ℕ) → run (done d) s at ≡ read b next → (f : FileFormat) → d.format ≡ f → (b.format ≡ f) × (next ≡ at)
unfolding run
ends-here d b s at next h f e =
    let q : b ≡ d = cc in
    (ap (λ (x : HeaderBytes). x.format) q ∙ e, cc)

pub parts_go : (ps : List Part) (d : HeaderBytes) (s : List ℕ) (at : ℕ) (b : HeaderBytes) (next : ℕ) → run (parts_read ps d) s at ≡ read b next
    → (b.format ≡ d.format) × (next ≡ at + parts_length ps)
unfolding parts_read
parts_go [] d s at b next h =
    let z = ends-here d b s at next h d.format refl in
    (z.0, omega (arith, z.1))
parts_go (pointer_size ∷ ps) d s at b next h =
    let u = one_goes (ascii "_") Bits32 (ascii "-") Bits64 (λ p. parts_read ps (with_pointer d p)) s at b next refl h in
    let z = parts_go ps (with_pointer d u.0) s (at + 1) b next u.1 in
    (z.0, omega (arith, z.1))
parts_go (byte_order ∷ ps) d s at b next h =
    let u = one_goes (ascii "v") Little (ascii "V") Big (λ e. parts_read ps (with_order d e)) s at b next refl h in
    let z = parts_go ps (with_order d u.0) s (at + 1) b next u.1 in
    (z.0, omega (arith, z.1))
parts_go (unchecked n ∷ ps) d s at b next h =
    let u = bytes_go n (λ a. parts_read ps (with_unchecked d a)) s at b next h in
    let z = parts_go ps (with_unchecked d u.0) s (at + n) b next u.1 in
    (z.0, omega (arith, z.1))
parts_go (version n ∷ ps) d s at b next h =
    let u = bytes_go n (λ v. parts_read ps (with_version d v)) s at b next h in
    let z = parts_go ps (with_version d u.0) s (at + n) b next u.1 in
    (z.0, omega (arith, z.1))

-- a header that is read has 12 or 17 bytes
pub header_length_lem : (s : List ℕ) (b : HeaderBytes) (next : ℕ) → run header_bytes s 0 ≡ read b next → next ≡ header_length b.format
unfolding header_bytes run
header_length_lem s b next h = magic (stands s 0 (ascii "BLENDER")) refl
  where
    old : (p : PointerSize) → run (legacy p) s 8 ≡ read b next → next ≡ header_length b.format
    old p g =
        let w = parts_go (drop 1 (parts Legacy)) (untold Legacy p) s 8 b next g in
        rw w.0 w.1

    long : (t : Bool) → stands s 7 (ascii "-") ≡ t → run (begins (ascii "-") (legacy Bits64) new) s 7 ≡ read b next → next ≡ header_length b.format
    long true u g = old Bits64 (sym (begins_in (ascii "-") (legacy Bits64) new s 7 u) ∙ g)
    long false u g =
        let w = parts_go (parts New) (untold New Bits32) s 7 b next (sym (begins-out (ascii "-") (legacy Bits64) new s 7 u) ∙ g) in
        rw w.0 w.1

    short : (t : Bool) → stands s 7 (ascii "_") ≡ t → run (begins (ascii "_") (legacy Bits32) (begins (ascii "-") (legacy Bits64) new)) s 7 ≡ read b next → next ≡ header_length b.format
    short true u g = old Bits32 (sym (begins_in (ascii "_") (legacy Bits32) (begins (ascii "-") (legacy Bits64) new) s 7 u) ∙ g)
    short false u g = long (stands s 7 (ascii "-")) refl (sym (begins-out (ascii "_") (legacy Bits32) (begins (ascii "-") (legacy Bits64) new) s 7 u) ∙ g)

    magic : (t : Bool) → stands s 0 (ascii "BLENDER") ≡ t → next ≡ header_length b.format
    magic true u =
        short (stands s 7 (ascii "_")) refl
        (sym (begins_in (ascii "BLENDER") (begins (ascii "_") (legacy Bits32) (begins (ascii "-") (legacy Bits64) new)) (refuse CompressedFileNotSupported) s 0 u) ∙ h)
    magic false u =
        let g : fault (Fault.Refusal CompressedFileNotSupported) ≡ read b next = sym (begins-out (ascii "BLENDER") (begins (ascii "_") (legacy Bits32) (begins (ascii "-") (legacy Bits64) new)) (refuse CompressedFileNotSupported) s 0 u) ∙ h in
        cc
