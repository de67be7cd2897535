-- Which locals stay and under which numbers (`eliminate_unused_vars`), and an instruction and a set under them (`remap_all_vars`). Assumes nothing.
use Rattle.std.specs.Prelude.{ℕ, cond, List, [], ◌∷◌, ◌++◌, map, get_or, length}
use Rattle.base.specs.Lists.{tab, keep, gather, place, firsts}
use Rattle.dataflow_domains.specs.Mask.{holds, set_of}
use Rattle.stackless_bytecode.specs.declared.Bytecode.{Bytecode}
use Rattle.stackless_bytecode.specs.Kinds.{dsts_of, srcs_of, is_flagged}
use Rattle.sheet.specs.Layout.{padded}

-- the abort local of a flagged Call, as a list of one
abbrev pub abort_of : Bytecode → List ℕ
abort_of r = cond (is_flagged r) (r.abort ∷ []) []

-- the locals that an instruction mentions: destinations, sources, the abort local of a flagged Call
unfoldable pub mentions : Bytecode → List ℕ
mentions r = dsts_of r ++ srcs_of r ++ abort_of r

-- the locals that stay, by their new numbers: the user locals, then the others in the order of first mention, record by record
unfoldable pub staying : ℕ → List Bytecode → List ℕ
staying users code = firsts [] (tab users 0 (λ i. i) ++ gather mentions code)

-- a local's new number: its place among those that stay
unfoldable pub new_number : List ℕ → ℕ → ℕ
new_number stay x = place x stay

-- an instruction with f of each local in its place; list places past their count, and the abort local of an unflagged Call, stay 0
abbrev pub remap_by : (ℕ → ℕ) → Bytecode → Bytecode
remap_by f r = record {
  kind = r.kind;
  sub = r.sub;
  attr = r.attr;
  one = r.one;
  two = r.two;
  ndst = r.ndst;
  nsrc = r.nsrc;
  flag = r.flag;
  abort = cond (is_flagged r) (f r.abort) r.abort;
  dsts = padded (map f (dsts_of r));
  srcs = padded (map f (srcs_of r));
  payload = r.payload;
}

-- an instruction under the new numbers
unfoldable pub remap : List ℕ → Bytecode → Bytecode
remap stay r = remap_by (new_number stay) r

-- a set under the new numbers: i is in it where the local that has number i was
unfoldable pub remap_set : List ℕ → ℕ → ℕ
remap_set stay m = set_of (keep (length stay) 0 (λ i. holds m (get_or stay i 0)))
