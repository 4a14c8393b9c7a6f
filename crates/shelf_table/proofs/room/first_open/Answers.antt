use Rattle.std.proofs.Common.{◌∙◌, sym, arith}
use Rattle.offer_model.proofs.NodeLemmas.{open_inside}
use Rattle.shelf_table.proofs.OpenLemmas.{IsFirstOpen-from_found, none_open}
use Rattle.shelf_table.proofs.room.first_open.Goals as goal

pub returns-in-Some-clause-inside : goal.returns-in-Some-clause-inside
returns-in-Some-clause-inside c =
    let found = IsFirstOpen-from_found c.args.node.now c.in-Some.i (sym c.first_open.ensures ∙ c.in-Some.is) in
    let inside = open_inside c.args.node.now c.in-Some.i found.open_mark in
    omega arith

pub returns-in-Some-clause-settled : goal.returns-in-Some-clause-settled
returns-in-Some-clause-settled c = (IsFirstOpen-from_found c.args.node.now c.in-Some.i (sym c.first_open.ensures ∙ c.in-Some.is)).first

pub returns-in-Some-clause-is_open : goal.returns-in-Some-clause-is_open
returns-in-Some-clause-is_open c = λ l. (IsFirstOpen-from_found c.args.node.now c.in-Some.i (sym c.first_open.ensures ∙ c.in-Some.is)).open_mark

pub returns-in-None-clause-settled : goal.returns-in-None-clause-settled
returns-in-None-clause-settled c = λ i l. none_open c.args.node.now i (sym c.first_open.ensures ∙ c.in-None.is) (omega (arith, c.len.ensures, l))
