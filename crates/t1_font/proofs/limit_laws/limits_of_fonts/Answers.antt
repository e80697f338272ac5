use Rattle.t1_font.proofs.LimitsKept.{read_within_limits, fonts_within_limits, nothing_past_the_end}
use Rattle.t1_font.proofs.limit_laws.limits_of_fonts.Goals as goal

pub returns-clause-kept : goal.returns-clause-kept
returns-clause-kept c = read_within_limits

pub returns-clause-fonts : goal.returns-clause-fonts
returns-clause-fonts c = fonts_within_limits

pub returns-clause-past : goal.returns-clause-past
returns-clause-past c = nothing_past_the_end
