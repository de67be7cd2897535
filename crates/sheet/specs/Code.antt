-- The code of an accepted sheet whose labels are resolved. Assumes nothing.
use Rattle.std.specs.Prelude.{List}
use Rattle.stackless_bytecode.specs.declared.Bytecode.{Bytecode}
use Rattle.sheet.specs.Layout.{code_of}
use Rattle.sheet.specs.declared.accepted.ResolvedSheet.{ResolvedSheet}

abbrev pub code_in : ResolvedSheet → List Bytecode
code_in s = code_of s.bytes.now
