-- The parts of a buffer that is read into, or of bytes that are written, call by call.
use Rattle.std.proofs.Common.{◌≡◌, ℕ, ◌+◌, ◌-◌, ◌≤◌, List, ◌++◌, length, take, drop}
use Rattle.std.proofs.Common.{sym, ap, ◌∙◌, le_refl, drop_at, length-take-le}
use Rattle.std.proofs.lemmas.Slice.{take-put_mid_below}
use Rattle.std.proofs.lemmas.List.{take_rest}
use borrow.Rule.Slice.PartMut.{put_mid, post_of}
use lib.Seq.{take-add, take-append-le}

-- a call put n bytes into the buffer behind the first `done`: with these they are the first done + n
pub read_more : (done n : ℕ) (buf part : List ℕ) → done ≤ length buf → n ≤ length part
    → take done buf ++ take n part ≡ take (done + n) (put_mid done (length buf - done) buf part)
read_more done n buf part within fits =
    let new = put_mid done (length buf - done) buf part in
    let after = post_of done (length buf - done) buf in
    let front : take done new ≡ take done buf = take-put_mid_below done (length buf - done) buf part done (le_refl done) within in
    let behind : take n (drop done new) ≡ take n part =
    ap (take n) (drop_at (take done buf) (part ++ after) done (length-take-le done buf within)) ∙ take-append-le n part after fits in
    sym (take-add done n new ∙ ap (λ l. l ++ take n (drop done new)) front ∙ ap (λ l. take done buf ++ l) behind)

-- a call took n of the bytes behind the first `done`: with these they are the first done + n
pub written_more : (done n : ℕ) (bytes : List ℕ)
    → take done bytes ++ take n (take (length bytes - done) (drop done bytes)) ≡ take (done + n) bytes
written_more done n bytes = ap (λ l. take done bytes ++ take n l) (take_rest bytes done) ∙ sym (take-add done n bytes)
