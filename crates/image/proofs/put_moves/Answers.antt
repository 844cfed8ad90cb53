-- `image::put_moves` meets its contract.
use Rattle.std.proofs.Common.{◌≡◌, refl, ◌∙◌, ◌+◌, ◌*◌, ◌≤◌, length, arith}
use Rattle.std.proofs.Math.ListN.{length-take}
use Rattle.std.proofs.Math.Seq.{take-length}
use Rattle.plans.specs.Plan.{moves_in}
use Rattle.image.specs.Image.{image_of, numbers_of}
use Rattle.image.proofs.Images.{put_more}
use Rattle.image.proofs.put_moves.Goals as goal

pub loop-k-init : goal.loop-k-init
unfolding image_of numbers_of
loop-k-init c = refl

pub loop-k-preserved : goal.loop-k-preserved
loop-k-preserved c =
    let k = c.loop-k.k in
    let in_list : 8 * k + 8 ≤ length c.args.list.now = omega (arith, length-take c.args.plan.n c.args.plan.moves) in
    c.put_move.ensures ∙ put_more c.args.list.now (moves_in c.args.plan) c.loop-k.list k c.loop-k.invariant c.loop-k-test.true in_list

pub returns : goal.returns
returns c =
    let all : c.loop-k.k ≡ length (moves_in c.args.plan) = omega arith in
    rw (all, take-length (moves_in c.args.plan)) at c.loop-k.invariant
