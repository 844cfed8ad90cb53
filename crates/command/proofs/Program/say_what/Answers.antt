-- What a call of `put` answers lies within the text.
use Rattle.std.proofs.Common.{replicate, rules, sym, length-take-le}
use Rattle.command.proofs.Program.say_what.Goals as goal

pub slice_bounds-text-end : goal.slice_bounds-text-end
slice_bounds-text-end g c = c.requires.within (replicate 8192 0) c.put-n.new.arg2 c.put-n.result (search rules)

pub slice_bounds-say-end : goal.slice_bounds-say-end
slice_bounds-say-end g c =
    sym (length-take-le _ _ (c.requires.within (replicate 8192 0) c.put-n.new.arg2 c.put-n.result (search rules)))
