-- How many nodes of one set are not in another.
use Rattle.std.specs.Prelude.{not, ◌&&◌, ℕ, suc, ◌^◌}
use Rattle.tree.specs.Held.{Nodes, count}

-- how many nodes of the tree are in S and not in N
unfoldable pub leaving : ℕ → Nodes → Nodes → ℕ
leaving h S N = count (2 ^ suc h) (λ n. S n && not (N n))
