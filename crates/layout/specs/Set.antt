-- The layout of given counts as a set of nodes of the tree.
use Rattle.std.specs.Prelude.{List, ℕ}
use Rattle.tree.specs.Held.{Nodes}
use Rattle.tree.specs.Block.{nodes_of}
use Rattle.layout.specs.Layout.{layout, among}

-- the nodes, in a tree of height h, of the layout of the counts
abbrev pub layout_set : ℕ → List ℕ → Nodes
layout_set h cs = nodes_of h (among (layout cs))
