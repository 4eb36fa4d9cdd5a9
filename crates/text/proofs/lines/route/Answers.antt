-- `route`: the four words after `put`, for the check.
use Rattle.std.proofs.Common.{◌≡◌, codes, sym, refl, ◌∙◌}
use Rattle.text.specs.Commands.{put, routed, both}
use Rattle.text.specs.Fields.{fields}
use Rattle.text.specs.Numerals.{decimal, dotted}
use Rattle.text.proofs.Asks.{apart, alike, put_none_1, put_none_2, put_none_3, put_some, routing_other, routing_to, lacks_bits, lacks_len, has_both, lacks_prefix, lacks_hop, has_route}
use Rattle.text.proofs.lines.route.Goals as goal
use Rattle.text.proofs.lines.route.Goals.{Else-ne}

pub returns-in_err-address : goal.returns-in_err-address
returns-in_err-address c = c.from_residual.ensures ∙ put_none_1 c.args.text.now c.in_err-address.ensures.cases

pub returns-in_err-len : goal.returns-in_err-len
returns-in_err-len c =
    c.from_residual-in_err-len.ensures
    ∙ put_none_2 c.args.text.now c.in_ok-address.address c.in_ok-address.rest c.in_ok-address.ensures.cases c.in_err-len.ensures.cases

pub returns-in_err-to : goal.returns-in_err-to
returns-in_err-to c =
    c.from_residual-in_err-to.ensures
    ∙ put_none_3 c.args.text.now c.in_ok-address.address c.in_ok-address.rest c.in_ok-len.len c.in_ok-len.rest c.in_ok-address.ensures.cases c.in_ok-len.ensures.cases c.in_err-to.ensures.cases

pub returns-then-ne : goal.returns-then-ne
returns-then-ne c =
    let n = apart c.in_ok-to.to.now (codes "to") c.ne.result c.ne.ensures c.if-ne.true in
    let e = put_some c.args.text.now c.in_ok-address.address c.in_ok-address.rest c.in_ok-len.len c.in_ok-len.rest c.in_ok-to.to c.in_ok-to.hop c.in_ok-address.ensures.cases c.in_ok-len.ensures.cases c.in_ok-to.ensures.cases in
    sym (e ∙ routing_other c.in_ok-address.address.now c.in_ok-len.len.now c.in_ok-to.to.now c.in_ok-to.hop.now n)

-- what is read once the three spaces are found, and `to` before the last
parts : (c : Else-ne) → put (fields 32 c.args.text.now) ≡ routed (both (dotted c.in_ok-address.address.now) (decimal c.in_ok-len.len.now)) (decimal c.in_ok-to.hop.now)
parts c =
    let t = alike c.in_ok-to.to.now (codes "to") c.ne.result c.ne.ensures c.if-ne.false in
    let e = put_some c.args.text.now c.in_ok-address.address c.in_ok-address.rest c.in_ok-len.len c.in_ok-len.rest c.in_ok-to.to c.in_ok-to.hop c.in_ok-address.ensures.cases c.in_ok-len.ensures.cases c.in_ok-to.ensures.cases in
    e ∙ routing_to c.in_ok-address.address.now c.in_ok-len.len.now c.in_ok-to.to.now c.in_ok-to.hop.now t

pub returns-in_err-bits : goal.returns-in_err-bits
returns-in_err-bits c = c.from_residual-in_err-bits.ensures ∙ lacks_prefix _ _ _ (parts (goal.at.returns-in_err-bits c).Else-ne) (lacks_bits _ _ _ refl c.in_err-bits.ensures)

pub returns-in_err-len-2 : goal.returns-in_err-len-2
returns-in_err-len-2 c = c.from_residual-in_err-len-2.ensures ∙ lacks_prefix _ _ _ (parts (goal.at.returns-in_err-len-2 c).Else-ne) (lacks_len _ _ _ refl c.in_err-len-2.ensures)

pub returns-in_err-hop : goal.returns-in_err-hop
returns-in_err-hop c = c.from_residual-in_err-hop.ensures ∙ lacks_hop _ _ _ (parts (goal.at.returns-in_err-hop c).Else-ne) c.in_err-hop.ensures

pub returns : goal.returns
returns c = has_route _ _ _ _ _ _ (parts (goal.at.returns c).Else-ne) (has_both _ _ _ _ _ refl c.in_ok-bits.ensures c.in_ok-len-2.ensures) c.in_ok-hop.ensures
