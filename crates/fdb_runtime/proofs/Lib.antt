mod PagesLemmas
mod UnreadableLemmas
mod WritingLemmas
