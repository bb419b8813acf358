-- Each entry is written as its value.
use Rattle.std.proofs.Common.{◌≡◌, ◌%◌, ◌++◌, Some, decimal, string_bytes, ap, ◌∙◌, rules}
use Rattle.std.proofs.lemmas.Result.{on_ok_weaker}
use Rattle.words.specs.Words.{value_room}
use Rattle.notation.proofs.Gaps.{spaced_values}
use Rattle.notation.proofs.showing.push_entries.Goals as goal

pub returns : goal.returns
returns c =
    let written = c.push_spaced.ensures (λ v. decimal (v % value_room)) (λ x y small shown. let is : y ≡ x % value_room = search rules in ap (λ n. Some (decimal n)) is) in
    on_ok_weaker c.push_spaced.result (λ e. e ∙ ap (λ x. string_bytes c.args.text.now ++ x) (spaced_values c.args.entries.now)) written
