mod Nexts
mod Meanings
mod Having
mod PredicateLaws
mod ExpressionLaws
mod StatementLaws
mod JudgingLaws
