-- Behind the path's bytes stand the zeros that are left.
use Rattle.std.proofs.lemmas.List.{drop-replicate}
use Rattle.file_kinds.proofs.ended.Goals as goal

pub returns : goal.returns
returns c = simp (c.copy_from_slice.ensures.after, drop-replicate)
