use Rattle.std.proofs.Common.{◌∙◌, ap, sym}
use Rattle.t1_rules.specs.Book.{number_of}
use Rattle.t1_report.specs.WaiverViews.{kept_waivers}
use Rattle.t1_report.specs.Waivers.{is_waived}
use Rattle.t1_report.proofs.WaiverSets.{any_waiver}
use Rattle.t1_report.proofs.waivers.Waivers.waives.Goals as goal

pub returns-in-Some : goal.returns-in-Some
returns-in-Some c =
    c.contains.ensures ∙ any_waiver c.in-Some.pairs.keys (c.args.name, c.args.rule)
    ∙ ap (λ waivers. is_waived waivers c.args.name.now (number_of c.args.rule)) (ap kept_waivers (sym c.in-Some.is) ∙ c.self.view_is)
