use Rattle.std.proofs.Common.{sym, ap, ◌∙◌, List, length, rules}
use Rattle.sheet_writer.specs.Written.{placed}
use Rattle.sheet_writer.specs.RecordsLaws.{placed_one, placed_none}
use Rattle.stackless_bytecode.specs.declared.Bytecode.{Bytecode}
use Rattle.livevar_transform.specs.PlanLaws.{dropped_as}
use Rattle.livevar_transform.specs.NewCodeLaws.{kept_in, kept_out}
use Rattle.transform_code.proofs.write.put_kept.Goals as goal

pub returns-then-eq : goal.returns-then-eq
returns-then-eq c =
    let e = sym (kept_out _ _ _ _ _ (dropped_as _ c.eq.ensures c.if-eq.true)) in
    record { long = ap length e; low = search rules; written = placed_none _ ∙ ap (λ (x : List Bytecode). placed x c.args.out.now) e }

pub returns : goal.returns
returns c =
    let e = sym (kept_in _ _ _ _ _ _ (dropped_as _ c.eq.ensures c.if-eq.false) c.stands_for-r.ensures) in
    record { long = ap length e; low = search rules; written = placed_one _ c.args.out.now _ c.encode.ensures ∙ ap (λ (x : List Bytecode). placed x c.args.out.now) e }
