-- The page of M6, of M2 with a Label that nobody names, and of no bytes at all, by computation. Assumes nothing.
use Rattle.std.specs.Prelude.{◌≡◌, refl, [], codes}
use Rattle.std.specs.Fmt.{digits}
use Rattle.pages.specs.Page.{page}
use Rattle.worked.specs.Samples.{m2_unnamed, m6}
use Rattle.worked.specs.Opened.{opened}

pub record Pages : Type 0 where
  pub m6_page : page m6 ≡ codes "code\nlocals 3 user 3 parameters 0 references t1\n0: branch L1 L2 on t0\n1: label L1 @1\n2: t2 <- call ReadRef t1 @2\n3: ret t2 @3\n4: label L2 @4\n5: ret @5\n\nflow\n0 to 0: key 4, leads to 2 3\n1 to 3: key 2, leads to 1\n4 to 5: key 3, leads to 1\nblocks 3\n\nlive\n0: before 0000000000000003 t0 t1, after 0000000000000002 t1\n1: before 0000000000000002 t1, after 0000000000000002 t1\n2: before 0000000000000002 t1, after 0000000000000004 t2\n3: before 0000000000000004 t2, after 0000000000000000\n4: before 0000000000000000, after 0000000000000000\n5: before 0000000000000000, after 0000000000000000\ntaken 6\n\nrewritten\nlocals 3 user 3 parameters 0 references t1\n0: branch L1 L3 on t0\n1: label L1 @1\n2: t2 <- call ReadRef t1 @2\n3: ret t2 @3\n4: label L2 @4\n5: ret @5\n6: label L3 @6\n7: call Destroy t1 @7\n8: jump L2 @8\n"
  pub unnamed_page : page m2_unnamed ≡ codes "code\nlocals 2 user 2 parameters 2 references\n0: label L1\n1: label L5\n2: branch L1 L2 on t0\n3: label L2\n4: ret t1\n\nflow\n0 to 2: key 2, leads to 2 3\n3 to 4: key 3, leads to 1\nblocks 2\nnever named L5\n\nlive\n0: before 0000000000000003 t0 t1, after 0000000000000003 t0 t1\n1: before 0000000000000003 t0 t1, after 0000000000000003 t0 t1\n2: before 0000000000000003 t0 t1, after 0000000000000003 t0 t1\n3: before 0000000000000002 t1, after 0000000000000002 t1\n4: before 0000000000000002 t1, after 0000000000000000\ntaken 7\n\nrewritten\nlocals 2 user 2 parameters 2 references\n0: label L1\n1: label L5\n2: branch L1 L2 on t0\n3: label L2\n4: ret t1\n"
  pub none_page : page [] ≡ codes "refused 1 0\n"

pub pages : Pages
unfolding digits opened
pages = record { m6_page = refl; unnamed_page = refl; none_page = refl }
