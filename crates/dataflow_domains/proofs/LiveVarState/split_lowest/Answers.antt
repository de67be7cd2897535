use Rattle.std.proofs.Common.{◌≡◌, ◌==◌, not, None, position, rules}
use Rattle.dataflow_domains.specs.Sets.{mask}
use Rattle.dataflow_domains.specs.SetLaws.{Array, array, no_word, first_word, taken_at}
use Rattle.dataflow_domains.proofs.LiveVarState.split_lowest.Goals as goal

pub returns-in_err-j-clause-none : goal.returns-in_err-j-clause-none
unfolding mask
returns-in_err-j-clause-none c =
    let none : position (λ word. not (word == 0)) c.args.self.livevars ≡ None = search rules in
    rw c.from_residual.ensures (no_word c.args.self.livevars (search (rules, array)) none)

pub less-requires : goal.less-requires
less-requires c = (first_word c.args.self.livevars c.in_ok-j.j (search (rules, array)) (search rules)).1

pub lowest_in-requires : goal.lowest_in-requires
lowest_in-requires c =
    let found = first_word c.args.self.livevars c.in_ok-j.j (search (rules, array)) (search rules) in record { inside = found.0; some = found.1 }

pub returns : goal.returns
unfolding mask
returns c =
    let known : Array c.args.self.livevars = search (rules, array) in
    let found = first_word c.args.self.livevars c.in_ok-j.j known (search rules) in
    let low = c.lowest_in.ensures in
    let taken = taken_at c.args.self.livevars c.in_ok-j.j _ _ _ known found.0 found.2 low.lowest low.below low.place c.less.ensures in
    record { none = _; lowest = taken.0; local = taken.1; rest = taken.2 }
