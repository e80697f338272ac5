use Rattle.t1draw.specs.Draws.DrawsFolder.{filed}
use Rattle.t1draw.proofs.running.show_folder.Goals as goal

pub returns-in-Ok : goal.returns-in-Ok
returns-in-Ok g c =
    let files = c.in-Ok.ensures in
    filed files.0 files.1.0 (rw (c.as_bytes.ensures.value, files.1.1) at c.give.ensures)
