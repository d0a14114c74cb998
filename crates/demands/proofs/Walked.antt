-- The demands of the walker, in both its forms: a walk from the start to the end mark has the rows of the file that the rules read, since there is no other walk.
use Rattle.std.specs.Prelude.{None}
use Prim.Native.Nat.{ℕ, ◌+◌, ◌<◌, ◌≤◌}
use mathlib.Core.Bool.{true}
use mathlib.Core.List.{List}
use mathlib.Core.Path.{◌≡◌, refl, sym, ◌∙◌, ap, subst}
use denote.Ref.{Bor}
use native.Mathlib.Omega.{arith}
use lib.ListN.{length, get_or}
use Rattle.octets.specs.Reader.{Outcome, run}
use Rattle.octets.specs.Reader.Outcome.{read, fault}
use Rattle.dna.specs.declared.dna.DnaCounts.{DnaCounts}
use Rattle.header.specs.declared.Header.{Header}
use Rattle.block.specs.declared.Row.{Row}
use Rattle.walker.specs.declared.Place.{Place}
use Rattle.block.specs.Kinds.{code_number, kind_of}
use Rattle.blend.specs.Blocks.{is_dna}
use Rattle.block.specs.Rows.{payload_of, none}
use Rattle.blend.specs.Chain.{File, file_by, rows_of}
use Rattle.header.specs.Header.{header_length, header_bytes, valued, header_as}
use Rattle.walker.specs.Walker.{Stepped, start, Stop, Walk}
use Rattle.walker.specs.Walker.Stop.{ended}
use Rattle.walker.proofs.Walks.{stop_of, stop_by, walks, one-walk}
use Rattle.held.specs.declared.Walker.{Walker}
use Rattle.held.specs.Calls as held
use Rattle.held.specs.Walks.{HeldWalk}
use Rattle.held.proofs.Walks.{plain_walk, held-walk}
use Rattle.demands.specs.Cover.{Covered, EveryBlockWalked, EveryBlockHeld}
use Rattle.demands.specs.Unaltered.{Alike, WalksOn, NoOtherObjectWalked, NoOtherObjectHeld}
use Rattle.octets.specs.Looks.{Untouched}
use Rattle.demands.proofs.Cover.{covered}
use Rattle.demands.proofs.Files.{filed}
use Rattle.demands.proofs.HeaderTrees.{header_tree}
use Rattle.blend.proofs.Links.{linked-ends}
use Rattle.octets.proofs.Own.{window}
use Rattle.demands.proofs.Unaltered.{payload-before, dna-kept, links, near, header-kept, file-kept}

-- the file that was walked, as the rules read it
record Walked (s : List ℕ) (rows : List Row) (end : ℕ) : Type 0 where
  file : File
  first : ℕ
  counts : DnaCounts
  found : file_by header_bytes s ≡ read file first
  same : file.chain.rows ≡ rows
  last : file.chain.last ≡ read counts end

walked : (s : List ℕ) (rows : List Row) (end : ℕ) → Walk (Stepped header_bytes s) start rows (ended end) → Walked s rows end
walked s rows end w = go (file_by header_bytes s) refl one.0 one.1
  where
    one : (rows ≡ rows_of (file_by header_bytes s)) × (ended end ≡ stop_by (file_by header_bytes s))
    one = one-walk header_bytes s start rows (rows_of (file_by header_bytes s)) (ended end) (stop_by (file_by header_bytes s)) w (walks header_bytes s)

    by : (f : File) (at : ℕ) → file_by header_bytes s ≡ read f at → rows ≡ f.chain.rows → (l : Outcome DnaCounts) → f.chain.last ≡ l → ended end ≡ stop_of l → Walked s rows end
    by f at e r (read n next) l k =
        let m : next ≡ end = cc in
        record { file = f; first = at; counts = n; found = e; same = sym r; last = l ∙ ap (λ (i : ℕ). read n i) m }
    by f at e r (fault x) l k =
        let z : ◌≡◌ {A = ℕ} 0 1 = cc in
        absurd (omega arith)

    go : (o : Outcome File) → file_by header_bytes s ≡ o → rows ≡ rows_of o → ended end ≡ stop_by o → Walked s rows end
    go (read f at) e r k = by f at e r f.chain.last refl k
    go (fault x) e r k =
        let z : ◌≡◌ {A = ℕ} 0 1 = cc in
        absurd (omega arith)

pub every-block-walked : EveryBlockWalked
every-block-walked s rows end w =
    let x = walked s rows end w in
    let f = x.file in
    let d = filed header_bytes s f x.first x.found in
    let h = f.header in
    let v : valued (run header_bytes s 0) ≡ read h x.first = ap valued d.found ∙ ap (λ (k : Header). read k x.first) (sym d.value) in
    let m : x.first ≡ header_length h.format = header_tree.long s d.bytes x.first d.found ∙ ap (λ (k : Header). header_length k.format) (sym d.value) in (
      h,
      ap (λ (i : ℕ). header_as (read h i)) (sym m) ∙ ap header_as (sym v),
      subst (λ (rs : List Row). Covered header_bytes s h rs end) x.same (covered header_bytes header_tree s f x.first x.counts end x.found x.last),
    )

-- a walker that was just made over a file walks as a place at the start of the file does, and the other way round
module _ (file : Bor (List ℕ)) (w : Walker) (o : held.over file w) (rows : List Row) (stop : Stop) where
  from-held : HeldWalk w rows stop → Walk (Stepped header_bytes file.now) start rows stop
  from-held x =
      subst (λ (p : Place). Walk (Stepped header_bytes file.now) p rows stop) o.1
      (subst (λ (f : Bor (List ℕ)). Walk (Stepped header_bytes f.now) w.place rows stop) o.0 (plain_walk w rows stop x))

  pub to_held : Walk (Stepped header_bytes file.now) start rows stop → HeldWalk w rows stop
  to_held x =
      held-walk w rows stop
      (subst (λ (f : Bor (List ℕ)). Walk (Stepped header_bytes f.now) w.place rows stop) (sym o.0)
      (subst (λ (p : Place). Walk (Stepped header_bytes file.now) p rows stop) (sym o.1) x))

pub every-block-held : EveryBlockHeld
every-block-held file w rows end o x = every-block-walked file.now rows end (from-held file w o rows (ended end) x)

module _ (s : List ℕ) (rows : List Row) (end : ℕ) (w : Walk (Stepped header_bytes s) start rows (ended end)) (z : List ℕ) (alike : Alike rows end s z) where
  x : Walked s rows end
  x = walked s rows end w

  abbrev f : File
  f = x.file

  like : Alike f.chain.rows end s z
  like = subst (λ (rs : List Row). Alike rs end s z) (sym x.same) alike

  again : Walk (Stepped header_bytes z) start rows (ended end)
  again =
      let e : file_by header_bytes z ≡ read f x.first = file-kept header_bytes header_tree s z f x.first x.counts end x.found x.last like in
      let a = subst (λ (o : Outcome File). Walk (Stepped header_bytes z) start (rows_of o) (stop_by o)) e (walks header_bytes z) in
      let b = subst (λ (o : Outcome DnaCounts). Walk (Stepped header_bytes z) start f.chain.rows (stop_of o)) x.last a in
      subst (λ (rs : List Row). Walk (Stepped header_bytes z) start rs (ended end)) x.same b

  same-header : valued (run header_bytes z 0) ≡ valued (run header_bytes s 0)
  same-header =
      let d = filed header_bytes s f x.first x.found in
      header-kept header_bytes header_tree s z f x.first x.counts end x.found x.last like
      ∙ sym (ap valued d.found ∙ ap (λ (k : Header). read k x.first) (sym d.value))

  module _ (i : ℕ) (k : i < length rows) where
    there : i < length f.chain.rows
    there = rw x.same k

    before : (get_or f.chain.rows i none).payload + (get_or f.chain.rows i none).len ≤ end
    before = payload-before f.header s f.chain.rows x.first None x.counts end (links header_bytes header_tree s z f x.first x.counts end x.found x.last like) i there

    inside : end ≤ length s
    inside = (linked-ends f.header s f.chain.rows x.first None x.counts end (links header_bytes header_tree s z f x.first x.counts end x.found x.last like)).1

    payload : Untouched s z (get_or rows i none).payload ((get_or rows i none).payload + (get_or rows i none).len) → payload_of z (get_or rows i none) ≡ payload_of s (get_or rows i none)
    payload u =
        let b = subst (λ (rs : List Row). (get_or rs i none).payload + (get_or rs i none).len ≤ end) x.same before in
        window s z (get_or rows i none).payload (get_or rows i none).len (omega (arith, inside)) (omega (arith, alike.long)) u

    catalogue : (get_or rows i none).code ≡ code_number "DNA1" → payload_of z (get_or rows i none) ≡ payload_of s (get_or rows i none)
    unfolding kind_of
    catalogue d =
        let q : is_dna (kind_of (get_or f.chain.rows i none).code) ≡ true = ap (λ (rs : List Row). is_dna (kind_of (get_or rs i none).code)) x.same ∙ ap (λ (n : ℕ). is_dna (kind_of n)) d in
        subst (λ (rs : List Row). payload_of z (get_or rs i none) ≡ payload_of s (get_or rs i none)) x.same
        (dna-kept f.header s z f.chain.rows x.first None x.counts end (links header_bytes header_tree s z f x.first x.counts end x.found x.last like)
        like.long (near header_bytes header_tree s z f x.first x.counts end x.found x.last like) i there q)

  walks-on : WalksOn s rows z
  walks-on = record { header = λ h at e. e ∙ ap header_as (sym same-header); payloads = payload; catalogues = catalogue }

pub no_other_object_walked : NoOtherObjectWalked
no_other_object_walked s rows end w z alike = (again s rows end w z alike, walks-on s rows end w z alike)

pub no_other_object_held : NoOtherObjectHeld
no_other_object_held file w rows end o x other v p alike =
    let y = no_other_object_walked file.now rows end (from-held file w o rows (ended end) x) other.now alike in
    (to_held other v p rows (ended end) y.0, y.1)
