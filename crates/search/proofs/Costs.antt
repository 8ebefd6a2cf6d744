-- The lines that were drawn are those of a grid. Assumes nothing.
use Rattle.std.proofs.Common.{◌≡◌, ℕ, ◌≤◌, ◌&&◌, T, leb, List, length, get_or, take, sym, ◌∙◌, arith, leb→le, length-take}
use Rattle.geometry.specs.Lists.{all_of}
use Rattle.geometry.specs.Sizes.{has}
use Rattle.routes.proofs.Bools.{left, right}
use Rattle.search.specs.declared.request.Request.{Request}
use Rattle.search.specs.Drawing.{ToldLines}
use Rattle.search.specs.Requests.{proper, sized}
use Rattle.search.proofs.Leasts.{lines_below}

-- the first n of a list, as a part of it is written
module _ (ls out : List ℕ) (n : ℕ) (told : ToldLines ls out n) where
  pub part_long : n ≡ length (take n out)
  part_long = sym (length-take n out ∙ omega (arith, told.inside))

  pub part_near : (size : ℕ) → T (all_of (λ v. leb v size) ls) → size ≤ 60000 → (i : ℕ) → get_or (take n out) i 0 ≤ 60000
  part_near size on small i = omega (arith, lines_below ls (take n out) size told.same on i)

module _ (q : Request) (is_proper : T (proper q)) where
  sizes : T (sized q)
  sizes = left (sized q) (has q.size q.first && has q.size q.second) is_proper

  pub narrow : q.size.width ≤ 60000
  narrow = leb→le q.size.width 60000 (left (leb q.size.width 60000) (leb q.size.height 60000 && leb q.size.layers 8) sizes)

  pub low : q.size.height ≤ 60000
  low = leb→le q.size.height 60000 (left (leb q.size.height 60000) (leb q.size.layers 8)
      (right (leb q.size.width 60000) (leb q.size.height 60000 && leb q.size.layers 8) sizes))
