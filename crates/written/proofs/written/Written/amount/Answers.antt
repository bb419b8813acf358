-- What is left to show of `Written::amount`.
use Rattle.std.proofs.Common.{◌∷◌, length, get_or, take, drop, sym, ap, ◌∙◌, arith}
use Rattle.std.proofs.lemmas.List.{length-drop}
use Rattle.words.specs.Heads.{due}
use Rattle.written.specs.Taking.{charges_waiting, head_charge, shown}
use Rattle.written.proofs.Walked.{known, branches_there, charge_small, charges_taken, charges_whole, part_gross}
use Rattle.written.proofs.written.Written.amount.Goals as goal

pub charge_of-charge-requires-clause-known : goal.charge_of-charge-requires-clause-known
charge_of-charge-requires-clause-known c = known c.in-Some.ensures.steps.2

pub charge_of-charge-requires-clause-there : goal.charge_of-charge-requires-clause-there
charge_of-charge-requires-clause-there c =
    omega (arith, branches_there c.in-Some.ensures.steps.2 c.args.sheet.now, ap length c.loop-item.invariant.1, ap length c.as_slice.ensures)

pub charge_of-charge-requires-clause-priced : goal.charge_of-charge-requires-clause-priced
charge_of-charge-requires-clause-priced c =
    let s = c.args.sheet.now in
    let steps = c.in-Some.ensures.steps in
    let h = shown c.in-Some.item in
    let part = part_gross c.next.new.self c.args.self.now.words.items s (steps.0 ∙ c.loop-item.invariant.0) in
    omega (arith, ap (λ l. head_charge h (take (due h) l) s) (c.as_slice.ensures ∙ c.loop-item.invariant.1), charge_small steps.2 s, part, c.requires)

pub put-requires : goal.put-requires
put-requires c =
    let steps = c.in-Some.ensures.steps in
    record {
      there = omega (arith, branches_there steps.2 c.args.sheet.now, ap length c.loop-item.invariant.1, c.charge_of-charge.ensures.taken);
      room = omega (arith, steps.1, c.loop-item.invariant.2);
    }

pub loop-item-preserved : goal.loop-item-preserved
loop-item-preserved c =
    let s = c.args.sheet.now in
    let steps = c.in-Some.ensures.steps in
    let h = shown c.in-Some.item in
    let waiting = charges_waiting c.loop-item.waiting in
    let told = c.charge_of-charge.ensures in (
      steps.0 ∙ c.loop-item.invariant.0,
      c.put.ensures ∙ (λ i. told.charge i ∷ drop (told.taken i) waiting) ∙ (λ i. head_charge h (take (due h) (c.as_slice.ensures i)) s ∷ drop (due h) waiting)
          ∙ ap (λ l. head_charge h (take (due h) l) s ∷ drop (due h) l) c.loop-item.invariant.1 ∙ sym (charges_taken steps.2 s),
      omega (arith, ap length c.put.ensures, length-drop c.charge_of-charge.result.1 waiting, steps.1, c.loop-item.invariant.2),
    )

pub bounds-as_slice-0 : goal.bounds-as_slice-0
bounds-as_slice-0 c =
    let whole = charges_whole c.loop-item.item-iterator c.next.new.self c.in-None.ensures.steps c.args.self.now.words.items c.loop-item.invariant.0 c.args.sheet.now in
    omega (arith, ap length (c.as_slice-2.ensures ∙ c.loop-item.invariant.1 ∙ whole))

pub returns : goal.returns
returns c =
    let whole = charges_whole c.loop-item.item-iterator c.next.new.self c.in-None.ensures.steps c.args.self.now.words.items c.loop-item.invariant.0 c.args.sheet.now in
    ap (λ l. get_or l 0 0) (c.as_slice-2.ensures ∙ c.loop-item.invariant.1 ∙ whole)
