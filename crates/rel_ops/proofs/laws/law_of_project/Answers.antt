use Rattle.rel_ops.proofs.ProjectLaws.{project_erases, project_shows, project_keeps_shown}
use Rattle.rel_ops.proofs.laws.law_of_project.Goals as goal

pub returns-clause-erases : goal.returns-clause-erases
returns-clause-erases c = project_erases c.args.items.now

pub returns-clause-shows : goal.returns-clause-shows
returns-clause-shows c = project_shows c.args.items.now

pub returns-clause-same : goal.returns-clause-same
returns-clause-same c = project_keeps_shown c.args.items.now
