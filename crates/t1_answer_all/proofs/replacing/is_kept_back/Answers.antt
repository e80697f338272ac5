use Rattle.t1_answer_all.proofs.Puts.{kept_back}
use Rattle.t1_answer_all.proofs.replacing.is_kept_back.Goals as goal

pub returns : goal.returns
returns g c =
    kept_back (record { Puts = g.F.FileStore.puts; Has = g.F.FileStore.has }) c.args.overwrites c.args.files.now c.is_there.new.self c.args.name.now c.is_there.result c.if-overwrites.false
    c.is_there.ensures
