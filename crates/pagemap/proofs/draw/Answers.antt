-- `pagemap::draw` meets its contract, check by check; where none applies, the map is that of the layout of the table's counts.
use Rattle.std.proofs.Common.{refl, sym}
use Rattle.std.proofs.lemmas.Result.{err_from_is_err_and}
use Rattle.pagemap.proofs.Drawn.{low, long, drawn_refused, drawn_out_of_order, pages_fit, drawn_short, drawn_done}
use Rattle.pagemap.proofs.draw.Goals as goal

pub returns-in_err-reserve_refusal : goal.returns-in_err-reserve_refusal
returns-in_err-reserve_refusal c =
    let p = err_from_is_err_and c.from_residual.result c.from_residual.ensures.1 in
    rw (p.1, p.2)
    (drawn_refused c.args.height c.args.table.now c.args.map.now c.in_err-reserve_refusal.field-0.0 c.in_err-reserve_refusal.ensures)

pub survey-found-requires : goal.survey-found-requires
survey-found-requires c =
    let passed = sym c.in_ok-reserve_refusal.ensures in
    (low c.args.height c.args.table.now passed, long c.args.height c.args.table.now passed, refl)

pub returns-then-not-found : goal.returns-then-not-found
returns-then-not-found c =
    drawn_out_of_order c.args.height c.args.table.now (sym c.in_ok-reserve_refusal.ensures) _ _ c.survey-found.ensures.finding
    c.survey-found.ensures.owners c.args.map.now c.if-not-found.true

pub returns-then-map-lt-MAP_BYTES : goal.returns-then-map-lt-MAP_BYTES
returns-then-map-lt-MAP_BYTES c =
    drawn_short c.args.height c.args.table.now (sym c.in_ok-reserve_refusal.ensures) _ _ c.survey-found.ensures.finding
    c.survey-found.ensures.owners c.if-not-found.false c.args.map.now c.if-map-lt-MAP_BYTES.true

pub layout-requires : goal.layout-requires
layout-requires c =
    pages_fit c.args.height c.args.table.now (sym c.in_ok-reserve_refusal.ensures) _ _ c.survey-found.ensures.finding
    c.survey-found.ensures.owners c.if-not-found.false

pub returns : goal.returns
returns c =
    drawn_done c.args.height c.args.table.now (sym c.in_ok-reserve_refusal.ensures) _ _ c.survey-found.ensures.finding
    c.survey-found.ensures.owners c.if-not-found.false c.args.map.now _ _ c.if-map-lt-MAP_BYTES.false c.layout.ensures c.write_map.ensures
