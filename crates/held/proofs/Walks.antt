-- A walker that holds its file walks as one does on plain parameters, and the other way round.
use Prim.Native.Nat.{ℕ}
use mathlib.Core.List.{List, [], ◌∷◌}
use mathlib.Core.Path.{refl, subst}
use denote.Ref.{Bor}
use Rattle.block.specs.declared.Row.{Row}
use Rattle.walker.specs.declared.Place.{Place}
use Rattle.header.specs.Header.{header_bytes}
use Rattle.walker.specs.Walker.{Stepped, Stop, Walk}
use Rattle.held.specs.declared.Walker.{Walker}
use Rattle.held.specs.Walks.{HeldWalk}

pub plain_walk : (w : Walker) (rows : List Row) (a : Stop) → HeldWalk w rows a → Walk (Stepped header_bytes w.file.now) w.place rows a
plain_walk w [] a x = x
plain_walk w (r ∷ rs) a x =
    let v = x.1 in
    let m = subst (λ (f : Bor (List ℕ)). Walk (Stepped header_bytes f.now) v.place rs a) x.3.0 (plain_walk v rs a x.4) in
    (x.0, x.2, subst (λ (p : Place). Walk (Stepped header_bytes w.file.now) p rs a) x.3.1 m)

pub held-walk : (w : Walker) (rows : List Row) (a : Stop) → Walk (Stepped header_bytes w.file.now) w.place rows a → HeldWalk w rows a
held-walk w [] a x = x
held-walk w (r ∷ rs) a x =
    let v : Walker = record { file = w.file; place = x.0 } in
    (x.0, v, x.1, (refl, refl), held-walk v rs a x.2)
